-- Processors that are stopped take no step, and stay stopped.
use Rattle.std.proofs.Common.{◌≡◌, ℕ, zero, suc, ◌+◌, ◌<◌, ◌≤◌, true, false, List, Option, Some, None, refl, replicate, sym, ap, ◌∙◌, subst, ⊎_elim, arith}
use Rattle.std.specs.Prelude.{◌&&◌, not, slice_get, slice_index}
use Rattle.std.proofs.lemmas.Bool.{cases_eq, cases_lt}
use Rattle.raw_network.specs.Network.{is_ready, has_values, has_room}
use Rattle.raw_network.proofs.Kth.{local_other}
use Rattle.raw_model.specs.Program.{ProgramSet}
use Rattle.raw_model.specs.Local.{Local}
use Rattle.raw_model.specs.Machine.{machine_of, takes, sends}
use Rattle.raw_model.specs.Start.{MachineState}
use Rattle.raw_model.specs.Rest.{enabled, step, stopped, is_stopped_at}
use Rattle.raw_debug.specs.declared.passing.Passing.{Passing}
use Rattle.raw_debug.specs.declared.walk.Walk.{Walk}
use Rattle.raw_debug.specs.Walking.{AllStopped, PassesStopped, NoneEnabled, HasStepped, HasPassed}

-- one that is stopped is not enabled
pub stopped_off : (set : ProgramSet) (s : MachineState) (p : ℕ) → stopped set s p ≡ true → enabled set s p ≡ false
unfolding machine_of
stopped_off set s p on = from (slice_get s.locals p) on
  where
    from : (o : Option Local) → is_stopped_at set p o ≡ true → is_ready (machine_of set) p o s.wires ≡ false
    from None e = absurd (cc e)
    from (Some l) e = ap (λ b. not b && (has_values (takes set p l) s.wires && has_room set.depth (sends set p l) s.wires)) e

-- where all between two are stopped, none of them is enabled
pub none_between : (set : ProgramSet) (s : MachineState) (low high : ℕ) → AllStopped set s low high → NoneEnabled set s low high
none_between set s low high all = λ p from to. stopped_off set s p (all p from to)

-- with the next one that is not enabled, and those behind it that are stopped
pub none_further : (set : ProgramSet) (s : MachineState) (low p high : ℕ) → NoneEnabled set s low p → enabled set s p ≡ false → AllStopped set s (p + 1) high
    → NoneEnabled set s low high
none_further set s low p high none off all = λ q from to.
    ⊎_elim
    (λ (before : q < p). none q from before)
    (λ (behind : p ≤ q).
    ⊎_elim
    (λ (here : q ≡ p). subst (λ r. enabled set s r ≡ false) (sym here) off)
    (λ (ne : q ≡ p → ⊥). stopped_off set s q (all q (later q behind ne) to))
    (cases_eq q p))
    (cases_lt q p)
  where
    later : (q : ℕ) → p ≤ q → (q ≡ p → ⊥) → p + 1 ≤ q
    later q behind ne = ⊎_elim (λ (l : p < q). omega (arith, l)) (λ (g : q ≤ p). absurd (ne (omega (arith, g, behind)))) (cases_lt p q)

-- what is stopped stays so with a step
pub passes_on : (set : ProgramSet) (s : MachineState) (p : ℕ) (ends : List ℕ) → enabled set s p ≡ true → PassesStopped set s ends → PassesStopped set (step set s p) ends
passes_on set s p ends ready passes = λ q there r low high.
    let on = passes q there r low high in
    ap (is_stopped_at set r) (local_other (machine_of set) s p r (other r on)) ∙ on
  where
    other : (r : ℕ) → stopped set s r ≡ true → r ≡ p → ⊥
    other r on e = absurd (cc (sym ready ∙ subst (λ q. enabled set s q ≡ false) e (stopped_off set s r on)))

-- at first none is passed over
none_noted : (n q : ℕ) → slice_index (replicate n 0) q ≡ 0
none_noted zero q = refl
none_noted (suc n) zero = refl
none_noted (suc n) (suc q) = none_noted n q

pub passes_none : (n : ℕ) (set : ProgramSet) (s : MachineState) → PassesStopped set s (replicate n 0)
passes_none n set s = λ q there r low high. absurd (let none = none_noted n q in omega (arith, high, none))

-- one more in front of those that are stopped
pub all_before : (set : ProgramSet) (s : MachineState) (p end : ℕ) → stopped set s p ≡ true → AllStopped set s (p + 1) end → AllStopped set s p end
all_before set s p end on all = λ q low high.
    ⊎_elim
    (λ (here : q ≡ p). subst (λ r. stopped set s r ≡ true) (sym here) on)
    (λ (ne : q ≡ p → ⊥). all q (later q low ne) high)
    (cases_eq q p)
  where
    later : (q : ℕ) → p ≤ q → (q ≡ p → ⊥) → p + 1 ≤ q
    later q low ne = ⊎_elim (λ (l : p < q). omega (arith, l)) (λ (g : q ≤ p). absurd (ne (omega (arith, g, low)))) (cases_lt p q)

-- the same, said of another machine's set, state and notes
pub passes_at : (set other : ProgramSet) (s t : MachineState) (ends later : List ℕ) → other ≡ set → t ≡ s → later ≡ ends
    → PassesStopped set s ends → PassesStopped other t later
passes_at set other s t ends later set_is state_is ends_is passes =
    subst (λ g. PassesStopped g t later) (sym set_is)
    (subst (λ u. PassesStopped set u later) (sym state_is) (subst (PassesStopped set s) (sym ends_is) passes))

module _ (old new : Walk) (same : new.machine.set ≡ old.machine.set) (passes : PassesStopped old.machine.set old.machine.state old.passing.ends) where
  pub passes_stepped : (p : ℕ) → HasStepped old new p → PassesStopped new.machine.set new.machine.state new.passing.ends
  passes_stepped p by =
      passes_at old.machine.set new.machine.set (step old.machine.set old.machine.state p) new.machine.state old.passing.ends new.passing.ends
      same by.stepped (ap (λ (x : Passing). x.ends) by.passing) (passes_on old.machine.set old.machine.state p old.passing.ends by.ready passes)

  pub passes_passed : HasPassed old new → PassesStopped new.machine.set new.machine.state new.passing.ends
  passes_passed by =
      passes_at old.machine.set new.machine.set old.machine.state new.machine.state old.passing.ends new.passing.ends
      same by.stays (ap (λ (x : Passing). x.ends) by.passing) passes
