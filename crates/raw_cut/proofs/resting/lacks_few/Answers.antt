use Rattle.std.proofs.Common.{◌≡◌, ℕ, ◌≤◌, ◌++◌, List, length, take, drop, sym, ap, ◌∙◌, arith, length-drop}
use Rattle.std.proofs.lemmas.List.{take-append-drop}
use Rattle.raw_cut.proofs.resting.lacks_few.Goals as goal

pub returns : goal.returns
returns c = λ e.
    let n : ℕ = length c.args.got.now in
    let due : List ℕ = c.args.due.now in
    let same : take n due ≡ c.args.got.now = c.are_same.ensures e in
    let few : length (drop n due) ≤ c.args.lack = omega (arith, length-drop n due, c.if-due-got.false) in
    (drop n due, sym (take-append-drop n due) ∙ ap (λ (xs : List ℕ). xs ++ drop n due) same, few)
