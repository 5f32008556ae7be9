-- What the verdict says.
use Rattle.std.proofs.Common.{◌≡◌, ◌≢◌, ℕ, ◌<◌, ◌≤◌, true, false, List, Option, Some, None, refl, sym, ap, ◌∙◌, arith}
use Rattle.std.specs.List.{find}
use Rattle.std.proofs.lemmas.Bool.{false≢true}
use Rattle.raw_cycle.specs.Cycles.{IsCycle}
use Rattle.raw_model.specs.declared.ending.Ending.TheVariants as ending
use Rattle.raw_model.specs.Program.{ProgramSet, IsSet}
use Rattle.raw_model.specs.Rest.{IsRun, end}
use Rattle.raw_model.specs.Serial.{serial}
use Rattle.raw_model.specs.Start.{MachineState}
use Rattle.raw_model.specs.Waits.{waits_for}
use Rattle.raw_model.specs.Outcomes.{Outcome, outcome, ending_of, IsOutcome}
use Rattle.raw_model.specs.Outcomes.Outcome.{Done, Deadlock, Trapped, Limit, Stuck}
use Rattle.raw_model.proofs.Resting.{outcome_says}
use Rattle.raw_model.proofs.Sweeping.{serial_rests}
use Rattle.raw_depth.specs.Depth.{at_depth, IsValueCycle}
use Rattle.raw_depth.specs.Verdicts.{all_depths, rest_of, rest_at, outcome_at, is_done, is_value_deadlock, waits_for_values, verdict_by, verdict, StaysDeadlocked}
use Rattle.raw_depth.specs.Verdicts.Verdict.{DoneFrom, NeverDone, NotDone}
use Rattle.raw_depth.proofs.Done.{still_done}
use Rattle.raw_depth.proofs.Finding.{IsFound, found, none_found}
use Rattle.raw_depth.proofs.Never.{set_at, cycle_stays, never_done}

done_by : (o c : Option ℕ) (d : ℕ) → verdict_by o c ≡ DoneFrom d → o ≡ Some d
done_by (Some e) c d is = cc is
done_by None (Some e) d is = absurd (cc is)
done_by None None d is = absurd (cc is)

never_by : (o c : Option ℕ) (d : ℕ) → verdict_by o c ≡ NeverDone d → c ≡ Some d
never_by (Some e) c d is = absurd (cc is)
never_by None (Some e) d is = cc is
never_by None None d is = absurd (cc is)

none_by : (o c : Option ℕ) → verdict_by o c ≡ NotDone → (o ≡ None) × (c ≡ None)
none_by (Some e) c is = absurd (cc is)
none_by None (Some e) is = absurd (cc is)
none_by None None is = (refl, refl)

-- where there is a cycle the outcome is a deadlock
by_cycle : (set : ProgramSet) (s : MachineState) (o : Outcome) → IsOutcome set s o → (p : ℕ) (ps : List ℕ) → IsCycle (waits_for set s) p ps
    → ending_of o ≡ ending.Deadlock
by_cycle set s Done says p ps cycle = absurd (says.0 p ps cycle)
by_cycle set s (Deadlock q qs) says p ps cycle = refl
by_cycle set s (Trapped q) says p ps cycle = absurd (says.0 p ps cycle)
by_cycle set s (Limit q) says p ps cycle = absurd (says.0 p ps cycle)
by_cycle set s (Stuck q) says p ps cycle = absurd (says.0 p ps cycle)

is_done_true : (o : Outcome) → is_done o ≡ true → o ≡ Done
is_done_true Done is = refl
is_done_true _ is = absurd (cc is)

module _ (set : ProgramSet) (valid : IsSet set) where
  at : (d : ℕ) → 1 ≤ d → d ≤ 7 → IsSet (at_depth set d)
  at d some few = set_at set d valid some few

  module _ (from : ℕ) (is : verdict set ≡ DoneFrom from) where
    first : IsFound (λ d. is_done (outcome_at set d)) 1 7 from
    unfolding verdict
    first =
        found (λ d. is_done (outcome_at set d)) 1 7 from
        (done_by (find (λ d. is_done (outcome_at set d)) all_depths) (find (λ d. waits_for_values (at_depth set d) (rest_at set d)) all_depths) from is)

    pub done_from : (d : ℕ) → from ≤ d → d ≤ 7 → outcome_at set d ≡ Done
    unfolding rest_of
    done_from d low high =
        let some = first.from in
        let below = first.below in
        let here = at from some (omega arith) in
        let there = at d (omega arith) high in
        still_done (at_depth set from) here (serial (at_depth set from)) (serial_rests (at_depth set from) here)
        (is_done_true (outcome_at set from) first.passes) d low (serial (at_depth set d)) (serial_rests (at_depth set d) there) there

    pub not_before : (d : ℕ) → 1 ≤ d → d < from → outcome_at set d ≢ Done
    not_before d some less done = false≢true (sym (first.before d some less) ∙ ap is_done done)

  module _ (from : ℕ) (is : verdict set ≡ NeverDone from) where
    cycle_at : IsFound (λ d. waits_for_values (at_depth set d) (rest_at set d)) 1 7 from
    unfolding verdict
    cycle_at =
        found (λ d. waits_for_values (at_depth set d) (rest_at set d)) 1 7 from
        (never_by (find (λ d. is_done (outcome_at set d)) all_depths) (find (λ d. waits_for_values (at_depth set d) (rest_at set d)) all_depths) from is)

    -- the set with that depth, and the deadlock to which it comes
    base : ProgramSet
    base = at_depth set from

    base_set : IsSet base
    unfolding base
    base_set = let low = cycle_at.from in let below = cycle_at.below in at from low (omega arith)

    record IsDeadlock : Type 0 where
      pub p : ℕ
      pub ps : List ℕ
      pub deadlock : outcome base (end base (serial base)) ≡ Deadlock p ps
      pub cycle : IsValueCycle base (end base (serial base)) p ps

    the_deadlock : IsDeadlock
    unfolding base rest_of waits_for_values
    the_deadlock =
        by (outcome base (end base (serial base))) refl (outcome_says base (end base (serial base)) base_set) cycle_at.passes
      where
        by : (o : Outcome) → outcome base (end base (serial base)) ≡ o → IsOutcome base (end base (serial base)) o
            → is_value_deadlock base (end base (serial base)) o ≡ true → IsDeadlock
        by Done is says values = absurd (cc values)
        by (Deadlock p ps) is says values = record { p = p; ps = ps; deadlock = is; cycle = record { cycle = says.cycle; values = values } }
        by (Trapped p) is says values = absurd (cc values)
        by (Limit p) is says values = absurd (cc values)
        by (Stuck p) is says values = absurd (cc values)

    base_rests : IsRun base (serial base)
    base_rests = serial_rests base base_set

    pub never_from : (d : ℕ) (g : List ℕ) → 1 ≤ d → IsRun (at_depth set d) g → outcome (at_depth set d) (end (at_depth set d) g) ≢ Done
    unfolding base
    never_from d g some run =
        let found = the_deadlock in
        never_done base d (serial base) g found.p found.ps base_set some base_rests run found.cycle

    pub deadlock_stays : (d : ℕ) (g : List ℕ) → from ≤ d → IsRun (at_depth set d) g → StaysDeadlocked set from d (end (at_depth set d) g)
    unfolding base rest_of
    deadlock_stays d g le run =
        let found = the_deadlock in
        record {
          p = found.p;
          ps = found.ps;
          deadlock = found.deadlock;
          stays = cycle_stays base d base_set le (serial base) g base_rests run found.p found.ps found.cycle;
        }

    pub deadlock_at : (d : ℕ) → from ≤ d → d ≤ 7 → ending_of (outcome_at set d) ≡ ending.Deadlock
    unfolding rest_of
    deadlock_at d le few =
        let low = cycle_at.from in
        let here = at d (omega arith) few in
        let stays = (deadlock_stays d (serial (at_depth set d)) le (serial_rests (at_depth set d) here)).stays in
        by_cycle (at_depth set d) (end (at_depth set d) (serial (at_depth set d))) (outcome (at_depth set d) (end (at_depth set d) (serial (at_depth set d))))
        (outcome_says (at_depth set d) (end (at_depth set d) (serial (at_depth set d))) here) (deadlock_stays d (serial (at_depth set d)) le (serial_rests (at_depth set d) here)).p
        (deadlock_stays d (serial (at_depth set d)) le (serial_rests (at_depth set d) here)).ps stays.there.cycle

    pub first_cycle : (d : ℕ) → 1 ≤ d → d < from → waits_for_values (at_depth set d) (rest_at set d) ≡ false
    first_cycle d some less = cycle_at.before d some less

  module _ (is : verdict set ≡ NotDone) where
    pub not_done_at : (d : ℕ) → 1 ≤ d → d ≤ 7 → (outcome_at set d ≢ Done) × (waits_for_values (at_depth set d) (rest_at set d) ≡ false)
    unfolding verdict
    not_done_at d some few =
        let neither =
        none_by (find (λ d. is_done (outcome_at set d)) all_depths) (find (λ d. waits_for_values (at_depth set d) (rest_at set d)) all_depths) is in (
          λ done. false≢true (sym (none_found (λ d. is_done (outcome_at set d)) 1 7 neither.0 d some (omega arith)) ∙ ap is_done done),
          none_found (λ d. waits_for_values (at_depth set d) (rest_at set d)) 1 7 neither.1 d some (omega arith),
        )
