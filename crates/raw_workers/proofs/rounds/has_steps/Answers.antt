use Rattle.std.proofs.Common.{◌≡◌, ℕ, ◌<◌, ◌≤◌, Bool, true, false, ◌==◌, List, [], ◌∷◌, length, Some, refl, sym, ap, subst, ◌∙◌, ⊎_elim, arith, slice_index_or, slice_get}
use Rattle.std.specs.Option.{option_map}
use Rattle.std.proofs.lemmas.Bool.{cases_lt, eqb-true}
use Rattle.std.proofs.lemmas.Option.{slice_get-map, slice_get_read, get_or_from_slice_get}
use Rattle.raw_grid.specs.declared.parts.ProcId.{ProcId}
use Rattle.raw_steps.specs.declared.log.PassLog.{PassLog}
use Rattle.raw_steps.specs.Taking.{numbers}
use Rattle.raw_steps.specs.Weaving.{steps_in}
use Rattle.raw_workers.proofs.rounds.has_steps.Goals as goal

-- an empty log has no steps
no_steps : (steps : List ProcId) → length steps ≡ 0 → numbers steps ≡ []
no_steps [] none = refl
no_steps (p ∷ ps) none = absurd (omega (arith, none))

none_in : (steps : List ProcId) (n : ℕ) (empty : Bool) → n ≡ length steps → empty ≡ (n == 0) → empty ≡ true → numbers steps ≡ []
none_in steps n true long is e = let none = eqb-true n 0 (sym is) in no_steps steps (omega (arith, none, long))
none_in steps n false long is e = absurd (cc e)

pub loop-log-preserved : goal.loop-log-preserved
loop-log-preserved c = λ w below.
    let logs = c.args.logs.now in
    let i = c.loop-log.log-index in
    let log : PassLog = c.log-item.result in
    let there : slice_get logs i ≡ Some log = slice_get_read logs (length logs) i log refl (omega (arith, c.loop-log-test.true)) c.log-item.is in
    let steps = λ (l : PassLog). numbers l.steps.items in
    let here : slice_index_or (steps_in logs) i [] ≡ [] =
    get_or_from_slice_get (steps_in logs) i (steps log) [] (slice_get-map steps logs i ∙ ap (option_map steps) there)
    ∙ none_in log.steps.items log.steps.len c.is_empty.result (let long = log.steps.ok.0 in omega (arith, long)) c.is_empty.ensures c.if-not-is_empty.false in
    ⊎_elim
    (λ (h : w < i). c.loop-log.invariant w h)
    (λ (past : i ≤ w). let is : i ≡ w = omega (arith, below, past) in subst (λ k. slice_index_or (steps_in logs) k [] ≡ []) is here)
    (cases_lt w i)
