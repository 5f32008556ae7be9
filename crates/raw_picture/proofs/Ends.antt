-- What an answer tells of a state, and the waits that are told, one after another.
use Rattle.std.proofs.Common.{◌≡◌, ℕ, zero, suc, ◌+◌, ◌-◌, ◌<◌, ◌≤◌, Bool, true, false, List, [], ◌∷◌, ◌++◌, length, Option, None, Some, refl, subst, sym, ap, ap₂, ◌∙◌, arith}
use Rattle.std.specs.Prelude.{◌||◌}
use Rattle.std.specs.List.{list_any}
use Rattle.raw_cycle.specs.Chains.{IsWithin, stretch}
use Rattle.raw_cycle.specs.Cycles.{WaitsRound, IsTheCycle, others_of}
use Rattle.raw_cycle.proofs.Rounds.{on_below}
use Rattle.raw_grid.specs.Topology.{proc_count}
use Rattle.raw_model.specs.Program.{ProgramSet, IsSet}
use Rattle.raw_model.specs.Local.{Local}
use Rattle.raw_model.specs.Start.{MachineState, Fits}
use Rattle.raw_model.specs.Rest.{is_trapped, is_at_limit}
use Rattle.raw_model.specs.Waits.{first_wait, waits_for}
use Rattle.raw_model.specs.Outcomes.{outcome, IsOutcome, IsFirst, is_unhalted}
use Rattle.raw_model.proofs.Awaited.{waits_for_other}
use Rattle.raw_model.proofs.Resting.{outcome_says}
use Rattle.raw_outcome.specs.declared.ends.Outcome.{Outcome as Answer}
use Rattle.raw_outcome.specs.declared.ends.Outcome.TheVariants as answer
use Rattle.raw_outcome.specs.Told.{told}
use Rattle.raw_picture.specs.declared.told.Telling.{Telling}
use Rattle.raw_picture.specs.Told.{AnswerFits, wait_piece, wait_told, waits_told}

-- where the waits of p lead round along so many, there are so many
round_length : (next : ℕ → Option ℕ) (first p k : ℕ) (o : Option ℕ) → next p ≡ o → WaitsRound next first p (stretch next k o) → length (stretch next k o) ≡ k
round_length next first p zero o is waits = refl
round_length next first p (suc k) None is waits = absurd (cc)
round_length next first p (suc k) (Some q) is waits = ap suc (round_length next first q k (next q) refl waits.1)

module _ (set : ProgramSet) (s : MachineState) (valid : IsSet set) (fits : Fits set s) where
  first_there : (test : Local → Bool) (p : ℕ) → IsFirst test s p → p < proc_count set.topo
  first_there test p first = omega (arith, first.there, fits.processors)

  within : IsWithin (waits_for set s) (proc_count set.topo)
  within p q is = (waits_for_other set s p q valid is).1

  cycle_there : (p : ℕ) (ps : List ℕ) → IsTheCycle (waits_for set s) p ps → p < proc_count set.topo
  cycle_there p ps cycle =
      on_below (waits_for set s) (proc_count set.topo) within p ps p
      (record { cycle = cycle.cycle; member = (0, omega arith, refl) })

  cycle_whole : (p n : ℕ) → IsTheCycle (waits_for set s) p (others_of (waits_for set s) p n) → length (others_of (waits_for set s) p n) + 1 ≡ n
  cycle_whole p zero cycle = absurd ((waits_for_other set s p p valid cycle.cycle.waits).0 refl)
  cycle_whole p (suc n) cycle =
      let next = waits_for set s in
      omega (arith, round_length next p p (suc n - 1) (next p) refl cycle.cycle.waits)

  fits_by : (o : Answer) → IsOutcome set s (told (waits_for set s) o) → AnswerFits set s o
  fits_by answer.Done says = tt
  fits_by (answer.Deadlock least count) says = (cycle_there least.0 _ says, cycle_whole least.0 count says)
  fits_by (answer.Trapped p) says = first_there is_trapped p.0 says.1
  fits_by (answer.Limit p) says = first_there (is_at_limit set) p.0 says.2
  fits_by (answer.Stuck p) says = first_there is_unhalted p.0 says.3

  -- the outcome that an answer tells is that of the state: then it names processors of the grid
  pub answer_fits : (o : Answer) → told (waits_for set s) o ≡ outcome set s → AnswerFits set s o
  answer_fits o is = fits_by o (subst (IsOutcome set s) (sym is) (outcome_says set s valid))

-- what is left of a stretch: p, and the stretch from the one that p waits for
pub stretch_on : (next : ℕ → Option ℕ) (count i p : ℕ) → i < count → stretch next (count - i) (Some p) ≡ p ∷ stretch next (count - (i + 1)) (next p)
stretch_on next count i p lt =
    let e : count - i ≡ suc (count - (i + 1)) = omega (arith, lt) in
    ap (λ k. stretch next k (Some p)) e

pub stretch_done : (next : ℕ → Option ℕ) (count i p : ℕ) → count ≤ i → stretch next (count - i) (Some p) ≡ []
stretch_done next count i p le =
    let e : count - i ≡ zero = omega (arith, le) in
    ap (λ k. stretch next k (Some p)) e

none_after : (next : ℕ → Option ℕ) (k : ℕ) → stretch next k None ≡ []
none_after next zero = refl
none_after next (suc k) = refl

module _ (set : ProgramSet) (s : MachineState) (telling : Telling) (first : Bool) (count i p : ℕ) where
  -- what is told of a processor that waits, and then of those from the one that it waits for on
  pub told_on : (q v : ℕ) → i < count → first_wait set s p ≡ Some v → waits_for set s p ≡ Some q
      → waits_told telling set s first (stretch (waits_for set s) (count - i) (Some p))
      ≡ wait_piece telling set.topo first p v ++ waits_told telling set s false (stretch (waits_for set s) (count - (i + 1)) (Some q))
  told_on q v lt wire on =
      let next = waits_for set s in
      ap (waits_told telling set s first) (stretch_on next count i p lt)
      ∙ ap₂ (λ o rest. wait_told telling set.topo first p o ++ waits_told telling set s false rest) wire (ap (stretch next (count - (i + 1))) on)

  -- of one that waits for none nothing is told, and nothing follows
  pub told_end : i < count → first_wait set s p ≡ None → waits_for set s p ≡ None → waits_told telling set s first (stretch (waits_for set s) (count - i) (Some p)) ≡ []
  told_end lt wire on =
      let next = waits_for set s in
      ap (waits_told telling set s first) (stretch_on next count i p lt)
      ∙ ap₂ (λ o rest. wait_told telling set.topo first p o ++ waits_told telling set s false rest) wire
      (ap (stretch next (count - (i + 1))) on ∙ none_after next (count - (i + 1)))

  pub told_done : count ≤ i → waits_told telling set s first (stretch (waits_for set s) (count - i) (Some p)) ≡ []
  told_done le = ap (waits_told telling set s first) (stretch_done (waits_for set s) count i p le)

-- whether one of a stretch passes
module _ (next : ℕ → Option ℕ) (test : ℕ → Bool) (count i p : ℕ) where
  pub any_here : i < count → test p ≡ true → list_any test (stretch next (count - i) (Some p)) ≡ true
  any_here lt passes =
      ap (list_any test) (stretch_on next count i p lt)
      ∙ ap (λ here. here || list_any test (stretch next (count - (i + 1)) (next p))) passes

  pub any_later : (q : ℕ) → i < count → test p ≡ false → next p ≡ Some q
      → list_any test (stretch next (count - i) (Some p)) ≡ list_any test (stretch next (count - (i + 1)) (Some q))
  any_later q lt fails on =
      ap (list_any test) (stretch_on next count i p lt)
      ∙ ap₂ (λ here rest. here || list_any test (stretch next (count - (i + 1)) rest)) fails on

  pub any_end : i < count → test p ≡ false → next p ≡ None → list_any test (stretch next (count - i) (Some p)) ≡ false
  any_end lt fails on =
      ap (list_any test) (stretch_on next count i p lt)
      ∙ ap₂ (λ here rest. here || list_any test (stretch next (count - (i + 1)) rest)) fails on
      ∙ ap (list_any test) (none_after next (count - (i + 1)))

  pub any_done : count ≤ i → list_any test (stretch next (count - i) (Some p)) ≡ false
  any_done le = ap (list_any test) (stretch_done next count i p le)
