-- The waits of a cycle, one after another.
use Rattle.std.proofs.Common.{◌≡◌, ℕ, zero, suc, ◌+◌, ◌-◌, ◌<◌, true, false, List, [], ◌∷◌, ◌++◌, Some, None, refl, sym, ap, ◌∙◌, subst, arith}
use Rattle.std.specs.Prelude.{option_map, ◌&&◌}
use Rattle.std.specs.List.{flat_map}
use Rattle.std.proofs.lemmas.Bool.{eq-eqb}
use Rattle.raw_cycle.specs.Chains.{IsWithin, stretch}
use Rattle.raw_cycle.specs.Cycles.{IsTheCycle, others_of}
use Rattle.raw_cycle.proofs.Rounds.{on_below}
use Rattle.raw_grid.specs.declared.parts.ProcId.{ProcId}
use Rattle.raw_grid.specs.Topology.{proc_count}
use Rattle.raw_grid.specs.Wires.{consumer_of}
use Rattle.raw_model.specs.Program.{ProgramSet, IsSet}
use Rattle.raw_model.specs.Start.{MachineState}
use Rattle.raw_model.specs.Waits.{first_wait, waits_for, other_end}
use Rattle.raw_model.specs.StateTexts.{wait_line, wait_line_of}
use Rattle.raw_model.specs.Outcomes.{outcome, IsOutcome}
use Rattle.raw_model.proofs.Awaited.{waits_for_other}
use Rattle.raw_model.proofs.Resting.{outcome_says}
use Rattle.raw_outcome.specs.declared.ends.Outcome.{Outcome as Answer}
use Rattle.raw_outcome.specs.declared.ends.Outcome.TheVariants as answer
use Rattle.raw_outcome.specs.Told.{told}
use Rattle.raw_depth.specs.Depth.{is_for_value, waits_for_value, all_for_values}
use Rattle.raw_depth.specs.Verdicts.{is_value_deadlock, waits_for_values}
use Rattle.raw_depths.specs.Text.{cycle_lines_of, cycle_lines}

module _ (set : ProgramSet) (s : MachineState) where
  -- what is left of the waits from p on, after i of so many
  abbrev pub left : ℕ → ℕ → ℕ → List ℕ
  left count i p = stretch (waits_for set s) (count - i) (Some p)

  left_is : (count i p : ℕ) → i < count → left count i p ≡ p ∷ stretch (waits_for set s) (count - (i + 1)) (waits_for set s p)
  left_is count i p lt =
      let e : count - i ≡ suc (count - (i + 1)) = omega (arith, lt) in
      ap (λ k. stretch (waits_for set s) k (Some p)) e

  left_next : (count i p q : ℕ) → i < count → waits_for set s p ≡ Some q → left count i p ≡ p ∷ left count (i + 1) q
  left_next count i p q lt is = left_is count i p lt ∙ ap (λ o. p ∷ stretch (waits_for set s) (count - (i + 1)) o) is

  -- one that waits for a value, and then the others
  pub value_on : (count i p q : ℕ) → i < count → waits_for set s p ≡ Some q → waits_for_value set s p ≡ true
      → all_for_values set s (left count i p) ≡ all_for_values set s (left count (i + 1) q)
  value_on count i p q lt is on =
      ap (all_for_values set s) (left_next count i p q lt is) ∙ ap (λ b. b && all_for_values set s (left count (i + 1) q)) on

  -- it waits for a value where its wire leads to it
  pub value_is : (p w to : ℕ) → first_wait set s p ≡ Some w → to ≡ consumer_of set.topo w → to ≡ p → waits_for_value set s p ≡ true
  value_is p w to wait leads same =
      ap (is_for_value set.topo p) wait ∙ eq-eqb (consumer_of set.topo w) p (sym leads ∙ same)

  -- the line of a processor that waits for another, and then the waits of that one
  pub waits_on : (count i p q : ℕ) → i < count → waits_for set s p ≡ Some q
      → flat_map (wait_line set s) (stretch (waits_for set s) (count - i) (Some p))
      ≡ wait_line set s p ++ flat_map (wait_line set s) (stretch (waits_for set s) (count - (i + 1)) (Some q))
  waits_on count i p q lt is = ap (flat_map (wait_line set s)) (left_next count i p q lt is)

  none_after : (k : ℕ) → stretch (waits_for set s) k None ≡ []
  none_after zero = refl
  none_after (suc k) = refl

  -- one that waits for none has no line, and nothing follows
  pub waits_end : (count i p : ℕ) → i < count → first_wait set s p ≡ None
      → flat_map (wait_line set s) (stretch (waits_for set s) (count - i) (Some p)) ≡ []
  unfolding wait_line
  waits_end count i p lt is =
      let f = wait_line set s in
      let next = waits_for set s in
      let none : next p ≡ None = ap (option_map (other_end set.topo p)) is in
      ap (flat_map f) (left_is count i p lt)
      ∙ ap (λ o. f p ++ flat_map f (stretch next (count - (i + 1)) o)) none
      ∙ ap (λ qs. f p ++ flat_map f qs) (none_after (count - (i + 1)))
      ∙ ap (λ o. wait_line_of set p o ++ []) is

  -- an answer that is no deadlock
  pub no_values : (o : Answer) → ((least : ProcId) (count : ℕ) → o ≡ answer.Deadlock least count → ⊥)
      → told (waits_for set s) o ≡ outcome set s → waits_for_values set s ≡ false
  unfolding waits_for_values
  no_values (answer.Deadlock least count) none is = absurd (none least count refl)
  no_values _ none is = ap (is_value_deadlock set s) (sym is)

-- the cycle of an answer that is a deadlock
module _ (set : ProgramSet) (s : MachineState) (valid : IsSet set) (least : ProcId) (count : ℕ) (is : told (waits_for set s) (answer.Deadlock least count) ≡ outcome set s) where
  says : IsTheCycle (waits_for set s) least.0 (others_of (waits_for set s) least.0 count)
  says = subst (IsOutcome set s) (sym is) (outcome_says set s valid)

  within : IsWithin (waits_for set s) (proc_count set.topo)
  within p q waits = (waits_for_other set s p q valid waits).1

  pub cycle_there : least.0 < proc_count set.topo
  cycle_there =
      on_below (waits_for set s) (proc_count set.topo) within least.0 (others_of (waits_for set s) least.0 count) least.0
      (record { cycle = says.cycle; member = (0, omega arith, refl) })

  whole : (n : ℕ) → IsTheCycle (waits_for set s) least.0 (others_of (waits_for set s) least.0 n)
      → stretch (waits_for set s) n (Some least.0) ≡ least.0 ∷ others_of (waits_for set s) least.0 n
  whole zero cycle = absurd ((waits_for_other set s least.0 least.0 valid cycle.cycle.waits).0 refl)
  whole (suc n) cycle =
      let e : suc n ≡ suc (suc n - 1) = omega arith in
      ap (λ k. stretch (waits_for set s) k (Some least.0)) e

  -- the waits that the cycle shows are each for a value where all of the stretch are
  pub values_are : waits_for_values set s ≡ all_for_values set s (stretch (waits_for set s) count (Some least.0))
  unfolding waits_for_values
  values_are = ap (is_value_deadlock set s) (sym is) ∙ ap (all_for_values set s) (sym (whole count says))

  -- and their lines are those of the stretch
  pub lines_are : flat_map (wait_line set s) (stretch (waits_for set s) count (Some least.0)) ≡ cycle_lines set s
  unfolding cycle_lines
  lines_are = ap (flat_map (wait_line set s)) (whole count says) ∙ ap (cycle_lines_of set s) is
