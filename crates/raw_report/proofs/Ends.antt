-- What an outcome tells of the processors that it names, and the waits from them on.
use Rattle.std.proofs.Common.{◌≡◌, ℕ, zero, suc, ◌+◌, ◌-◌, ◌<◌, ◌≤◌, Bool, true, List, [], ◌∷◌, ◌++◌, length, get_or, Option, None, Some, refl, subst, sym, ap, ◌∙◌, arith}
use Rattle.std.specs.Prelude.{slice_get, option_map, IsSomeAnd}
use Rattle.std.specs.List.{flat_map}
use Rattle.std.proofs.lemmas.Bool.{false≢true}
use Rattle.std.proofs.lemmas.Option.{slice_get-get_or}
use Rattle.raw_cycle.specs.Chains.{IsWithin, stretch, chain_from}
use Rattle.raw_cycle.specs.Cycles.{WaitsRound, IsTheCycle, others_of}
use Rattle.raw_cycle.proofs.Rounds.{on_below}
use Rattle.raw_grid.specs.Topology.{proc_count}
use Rattle.raw_model.specs.Program.{ProgramSet, IsSet}
use Rattle.raw_model.specs.Local.{steps_of, Local, Tile, Switch, Source, Sink}
use Rattle.raw_model.specs.Start.{MachineState, Fits}
use Rattle.raw_model.specs.Rest.{is_trap, is_trapped}
use Rattle.raw_model.specs.Waits.{first_wait, waits_for, other_end}
use Rattle.raw_model.specs.StateTexts.{wait_line, wait_line_of}
use Rattle.raw_model.specs.Outcomes.{outcome, IsOutcome, IsFirst}
use Rattle.raw_model.proofs.Awaited.{waits_for_other}
use Rattle.raw_model.proofs.Resting.{outcome_says}
use Rattle.raw_model.specs.Parts.{count_in}
use Rattle.raw_outcome.specs.declared.ends.Outcome.{Outcome as Answer}
use Rattle.raw_outcome.specs.Told.{told}
use Rattle.raw_report.specs.Locals.{mark_at, trap_at, trap_text}

-- where the waits of p lead round along so many, there are so many
round_length : (next : ℕ → Option ℕ) (first p k : ℕ) (o : Option ℕ) → next p ≡ o → WaitsRound next first p (stretch next k o) → length (stretch next k o) ≡ k
round_length next first p zero o is waits = refl
round_length next first p (suc k) None is waits = absurd (cc)
round_length next first p (suc k) (Some q) is waits = ap suc (round_length next first q k (next q) refl waits.1)

trap_is : (l : Local) → is_trapped l ≡ true → is_trap (mark_at (Some l)) ≡ true
trap_is (Source l) is = absurd (false≢true is)
trap_is (Sink l) is = absurd (false≢true is)
trap_is _ is = is

-- why a processor is trapped, by its mark
pub trap_at_is : (o : Option Local) → trap_at o ≡ trap_text (mark_at o)
trap_at_is None = refl
trap_at_is (Some (Tile l)) = refl
trap_at_is (Some (Switch l)) = refl
trap_at_is (Some (Source l)) = refl
trap_at_is (Some (Sink l)) = refl

-- the count of a processor that is there
pub count_is : (o : Option Local) (n : ℕ) → IsSomeAnd o (λ l. n ≡ steps_of l) → n ≡ count_in o
count_is None n here = absurd here
count_is (Some l) n here = here

-- a chain, and a cycle, as a stretch of waits
pub chain_is : (next : ℕ → Option ℕ) (n p k : ℕ) → k ≡ n + 1 → stretch next k (Some p) ≡ chain_from next n p
chain_is next n p k is =
    let e : k ≡ suc n = omega (arith, is) in
    ap (λ k. stretch next k (Some p)) e

pub cycle_is : (next : ℕ → Option ℕ) (p count : ℕ) → length (others_of next p count) + 1 ≡ count → stretch next count (Some p) ≡ p ∷ others_of next p count
cycle_is next p count whole =
    let e : count ≡ suc (count - 1) = omega (arith, whole) in
    ap (λ k. stretch next k (Some p)) e

module _ (set : ProgramSet) (s : MachineState) (valid : IsSet set) where
  -- the outcome that an answer tells says what it says
  pub told_says : (o : Answer) → told (waits_for set s) o ≡ outcome set s → IsOutcome set s (told (waits_for set s) o)
  told_says o is = subst (IsOutcome set s) (sym is) (outcome_says set s valid)

  pub first_there : (test : Local → Bool) (p : ℕ) → Fits set s → IsFirst test s p → p < proc_count set.topo
  first_there test p fits first = omega (arith, first.there, fits.processors)

  pub first_trapped : (p : ℕ) → IsFirst is_trapped s p → is_trap (mark_at (slice_get s.locals p)) ≡ true
  first_trapped p first =
      let d : Local = Source (record { done = 0; got = [] }) in
      ap (λ l. is_trap (mark_at l)) (slice_get-get_or s.locals p d first.there) ∙ trap_is (get_or s.locals p d) (first.passes d)

  within : IsWithin (waits_for set s) (proc_count set.topo)
  within p q is = (waits_for_other set s p q valid is).1

  pub cycle_there : (p : ℕ) (ps : List ℕ) → IsTheCycle (waits_for set s) p ps → p < proc_count set.topo
  cycle_there p ps cycle =
      on_below (waits_for set s) (proc_count set.topo) within p ps p
      (record { cycle = cycle.cycle; member = (0, omega arith, refl) })

  pub cycle_whole : (p n : ℕ) → IsTheCycle (waits_for set s) p (others_of (waits_for set s) p n) → length (others_of (waits_for set s) p n) + 1 ≡ n
  cycle_whole p zero cycle = absurd ((waits_for_other set s p p valid cycle.cycle.waits).0 refl)
  cycle_whole p (suc n) cycle =
      let next = waits_for set s in
      omega (arith, round_length next p p (suc n - 1) (next p) refl cycle.cycle.waits)

module _ (set : ProgramSet) (s : MachineState) where
  -- the line of a processor that waits for another, and then the waits of that one
  pub waits_on : (count i p q : ℕ) → i < count → waits_for set s p ≡ Some q
      → flat_map (wait_line set s) (stretch (waits_for set s) (count - i) (Some p))
      ≡ wait_line set s p ++ flat_map (wait_line set s) (stretch (waits_for set s) (count - (i + 1)) (Some q))
  waits_on count i p q lt is =
      let e : count - i ≡ suc (count - (i + 1)) = omega (arith, lt) in
      ap (λ k. flat_map (wait_line set s) (stretch (waits_for set s) k (Some p))) e
      ∙ ap (λ o. wait_line set s p ++ flat_map (wait_line set s) (stretch (waits_for set s) (count - (i + 1)) o)) is

  none_after : (k : ℕ) → stretch (waits_for set s) k None ≡ []
  none_after zero = refl
  none_after (suc k) = refl

  -- one that waits for none has no line, and nothing follows
  pub waits_end : (count i p : ℕ) → i < count → first_wait set s p ≡ None
      → flat_map (wait_line set s) (stretch (waits_for set s) (count - i) (Some p)) ≡ []
  unfolding wait_line
  waits_end count i p lt is =
      let e : count - i ≡ suc (count - (i + 1)) = omega (arith, lt) in
      let f = wait_line set s in
      let next = waits_for set s in
      let none : next p ≡ None = ap (option_map (other_end set.topo p)) is in
      ap (λ k. flat_map f (stretch next k (Some p))) e
      ∙ ap (λ o. f p ++ flat_map f (stretch next (count - (i + 1)) o)) none
      ∙ ap (λ qs. f p ++ flat_map f qs) (none_after (count - (i + 1)))
      ∙ ap (λ o. wait_line_of set p o ++ []) is

  -- where so many waits were told, none is left
  pub waits_done : (count i p : ℕ) → count ≤ i → flat_map (wait_line set s) (stretch (waits_for set s) (count - i) (Some p)) ≡ []
  waits_done count i p le =
      let e : count - i ≡ zero = omega (arith, le) in
      ap (λ k. flat_map (wait_line set s) (stretch (waits_for set s) k (Some p))) e
