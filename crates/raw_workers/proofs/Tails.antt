-- The processors that a list has been given at its end.
use Rattle.std.proofs.Common.{◌≡◌, ℕ, ◌-◌, ◌<◌, List, ◌++◌, length, take, drop, Some, sym, ap, ◌∙◌, subst}
use Rattle.std.specs.Prelude.{◌↔◌, All, slice_get}
use Rattle.std.proofs.Math.Seq.{drop-append_seam}
use Rattle.std.proofs.lemmas.List.{length-map, drop-map, take_rest}
use Rattle.std.proofs.lemmas.Option.{slice_get-map, slice_get_within, get_or_from_slice_get}
use Rattle.std.specs.Option.{option_map}
use Rattle.raw_grid.specs.declared.parts.ProcId.{ProcId}
use Rattle.raw_model.specs.Rest.{IsLawfulFrom}
use Rattle.raw_serial.specs.Running.{Running}
use Rattle.raw_steps.specs.declared.checking.CheckAnswer.{CheckAnswer}
use Rattle.raw_steps.specs.declared.checking.CheckAnswer.TheVariants.{Lawful}
use Rattle.raw_steps.specs.Checking.{taken_of}
use Rattle.raw_steps.specs.Taking.{numbers, AreThere}
use Rattle.raw_serial.specs.Leading.{HasTaken}

-- what stands behind the first ones
pub tail_is : (all old : List ProcId) (before : ℕ) (more : List ℕ) → numbers all ≡ numbers old ++ more → before ≡ length old → numbers (take (length all - before) (drop before all)) ≡ more
tail_is all old before more are is =
    ap numbers (take_rest all before)
    ∙ sym (drop-map (λ (p : ProcId). p.0) before all)
    ∙ ap (drop before) are
    ∙ ap (λ n. drop n (numbers old ++ more)) (is ∙ sym (length-map old (λ (p : ProcId). p.0)))
    ∙ drop-append_seam (numbers old) more

-- they are there where their numbers are
pub there_by : (n : ℕ) (ps : List ProcId) (numbers_are : List ℕ) → numbers ps ≡ numbers_are → All (λ q. q < n) numbers_are → AreThere n ps
there_by n ps numbers_are is all = λ i p here.
    let at : slice_get numbers_are i ≡ Some p.0 =
    ap (λ l. slice_get l i) (sym is) ∙ slice_get-map (λ (q : ProcId). q.0) ps i ∙ ap (option_map (λ (q : ProcId). q.0)) here in
    subst (λ q. q < n) (get_or_from_slice_get numbers_are i p.0 p.0 at) (all i p.0 (slice_get_within numbers_are i p.0 at))

-- a machine that was checked by steps which are lawful has taken them
pub checked_taken : (old m n : Running) (steps : List ℕ) (more : List ProcId) (answer : CheckAnswer) → m ≡ old → numbers more ≡ steps → IsLawfulFrom old.set old.state steps
    → (answer ≡ Lawful) ↔ IsLawfulFrom m.set m.state (numbers more) → HasTaken m n (taken_of answer (numbers more)) → HasTaken old n steps
checked_taken old m n steps more answer same is lawful exact taken =
    let on : IsLawfulFrom m.set m.state (numbers more) =
    subst (λ (x : Running). IsLawfulFrom x.set x.state (numbers more)) (sym same) (subst (IsLawfulFrom old.set old.state) (sym is) lawful) in
    subst (λ (x : Running). HasTaken x n steps) same
    (subst (HasTaken m n) is (subst (λ a. HasTaken m n (taken_of a (numbers more))) (exact.1 on) taken))
