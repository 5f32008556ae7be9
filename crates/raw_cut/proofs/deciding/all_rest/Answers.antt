use Rattle.std.proofs.Common.{rules, ◌≡◌, ℕ, ◌+◌, ◌<◌, ◌≤◌, List, [], length, map, sym, ap, ◌∙◌, subst, ⊎_elim, arith}
use Rattle.std.specs.Prelude.{slice_index_or}
use Rattle.std.proofs.lemmas.Bool.{cases_lt}
use Rattle.raw_model.specs.Program.{ProgramSet}
use Rattle.raw_stream.specs.Streams.{Stream}
use Rattle.raw_rows.specs.Kernels.{Cut, RestsSeeing, unknown}
use Rattle.raw_cut.specs.Cuts.{cut_of}
use Rattle.raw_cut.proofs.Copies.{index_map}
use Rattle.raw_cut.proofs.deciding.all_rest.Goals as goal

pub loop-i-preserved : goal.loop-i-preserved
loop-i-preserved c =
    let set : ProgramSet = c.args.set.now in
    let s : Stream = c.args.stream.now in
    let w = c.args.proof.now in
    let i : ℕ = c.loop-i.i in
    let cut : Cut = cut_of w.cut in
    let lists : List (List ℕ) = map (λ steps. steps.items) w.endings.items in
    let many : c.in-Some.many ≡ w.cut.window + i = search (rules, c.in-Some.ensures, c.in-Some.is, c.checked_add.ensures) in
    let long = w.endings.ok.0 in
    let below : i < length w.endings.items = omega (arith, c.loop-i-test.true, c.if-len-proof.false, c.len.ensures, long) in
    let at : slice_index_or lists i [] ≡ c.deref.result.now =
    index_map (λ steps. steps.items) w.endings.items i [] c.index.result.now below ∙ ap (λ steps. steps.items) (sym c.index.ensures) ∙ sym c.deref.ensures.value in
    let here : RestsSeeing set s w.last_limit (unknown s) cut (slice_index_or lists i []) w.lacks.items (w.cut.window + i) =
    subst (λ (steps : List ℕ). RestsSeeing set s w.last_limit (unknown s) cut steps w.lacks.items (w.cut.window + i)) (sym at)
    (subst (λ (ls : List ℕ). RestsSeeing set s w.last_limit (unknown s) cut c.deref.result.now ls (w.cut.window + i)) c.deref-in-loop-i.ensures.value
    (subst (λ (n : ℕ). RestsSeeing set s w.last_limit (unknown s) cut c.deref.result.now c.deref-in-loop-i.result.now n) many (c.in_ok-rests.ensures c.if-not-branch.false))) in
    λ j less.
    ⊎_elim (λ (earlier : j < i). c.loop-i.invariant j earlier)
    (λ (past : i ≤ j).
    let is : j ≡ i = omega (arith, less, past) in
    subst (λ (k : ℕ). RestsSeeing set s w.last_limit (unknown s) cut (slice_index_or lists k []) w.lacks.items (w.cut.window + k)) (sym is) here)
    (cases_lt j i)

pub returns : goal.returns
returns c = λ _ i below. c.loop-i.invariant i (omega (arith, below, c.loop-i-test.false))
