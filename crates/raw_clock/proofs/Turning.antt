-- What a turn of the clock comes to, and which turns the machine with stall turns may take.
use Rattle.std.proofs.Common.{◌≡◌, ℕ, ◌<◌, Bool, true, false, not, ◌&&◌, ◌||◌, length, Option, Some, None, refl, sym, ap, ◌∙◌, ⊎_elim, arith}
use Rattle.std.specs.Prelude.{◌↔◌, slice_get}
use Rattle.std.specs.List.{filter, range_with_len}
use Rattle.std.proofs.lemmas.Bool.{false_from_ne_true, and_right}
use Rattle.std.proofs.lemmas.Option.{slice_get_cases, slice_get_within}
use Rattle.raw_network.specs.Network.{has_values, has_room, is_ready, is_enabled}
use Rattle.raw_grid.specs.Topology.{proc_count}
use Rattle.raw_model.specs.Program.{ProgramSet}
use Rattle.raw_model.specs.Local.{Local}
use Rattle.raw_model.specs.Machine.{machine_of, is_stopped}
use Rattle.raw_model.specs.Start.{MachineState}
use Rattle.raw_model.specs.Rest.{stopped, is_stopped_at, enabled}
use Rattle.raw_model.specs.Waits.{first_wait}
use Rattle.raw_model.proofs.Awaited.{none_where_enabled}
use Rattle.raw_serial.specs.Turns.{turn_by}
use Rattle.raw_lockstep.specs.Stalls.{Paying, owes_from, all_fired}
use Rattle.raw_lockstep.proofs.Stalling.{local_there, law_may_turn}
use Rattle.raw_lockstep.proofs.Cycling.{filtered_alike}
use Rattle.raw_clock.specs.Clock.{cost_of, clocked, ClockState, machine_at, owes, turn_in, is_fired, goes, fired}

-- the kinds of a turn, where only what is not stopped is enabled, and then exactly where it waits for nothing
record HasKinds (stops owing on : Bool) (wait : Option ℕ) : Type 0 where
  pub fired : is_fired (turn_by stops owing wait) ≡ (on && not owing)
  pub goes : goes (turn_by stops owing wait) ≡ (not stops && (owing || on))

has_kinds : (stops owing on : Bool) (wait : Option ℕ) → (stops ≡ true → on ≡ false)
    → (stops ≡ false → ((wait ≡ None) ↔ (on ≡ true))) → HasKinds stops owing on wait
has_kinds true owing on wait off same = record { fired = sym (ap (λ b. b && not owing) (off refl)); goes = refl }
has_kinds false true on wait off same = record { fired = sym (and_right on false refl); goes = refl }
has_kinds false false on None off same =
    let is : on ≡ true = (same refl).0 refl in
    record { fired = sym (ap (λ b. b && true) is); goes = sym is }
has_kinds false false on (Some w) off same =
    let is : on ≡ false = false_from_ne_true on (λ e. not_none ((same refl).1 e)) in
    record { fired = sym (ap (λ b. b && true) is); goes = sym is }
  where
    not_none : Some w ≡ None → ⊥
    not_none e = cc e

module _ (set : ProgramSet) where
  -- what is stopped is not enabled
  stopped_off : (s : MachineState) (p : ℕ) → stopped set s p ≡ true → enabled set s p ≡ false
  unfolding machine_of
  stopped_off s p stop = from (slice_get s.locals p) stop
    where
      from : (o : Option Local) → is_stopped_at set p o ≡ true → is_ready (machine_of set) p o s.wires ≡ false
      from None e = refl
      from (Some l) e =
          ap (λ b. not b && (has_values ((machine_of set).takes p l) s.wires && has_room (machine_of set).depth ((machine_of set).sends p l) s.wires)) e

  module _ (c : ClockState) (p : ℕ) (x : Paying Local) (here : slice_get c.locals p ≡ Some x) where
    in_machine : slice_get (machine_at c).locals p ≡ Some x.local
    in_machine = local_there (machine_of set) (cost_of set) c p (Some x) here

    kinds_here : HasKinds (stopped set (machine_at c) p) (owes set c p) (enabled set (machine_at c) p) (first_wait set (machine_at c) p)
    kinds_here =
        has_kinds (stopped set (machine_at c) p) (owes set c p) (enabled set (machine_at c) p) (first_wait set (machine_at c) p)
        (stopped_off (machine_at c) p)
        (none_where_enabled set (machine_at c) p (slice_get_within (machine_at c).locals p x.local in_machine))

    goes_here : goes (turn_in set c p) ≡ is_enabled (clocked set) c p
    unfolding machine_of
    goes_here =
        kinds_here.goes
        ∙ ap (λ o. not (is_stopped_at set p o) && (owes set c p || enabled set (machine_at c) p)) in_machine
        ∙ ap (λ o. not (is_stopped set p x.local) && (owes_from (cost_of set) p o || enabled set (machine_at c) p)) here
        ∙ sym (law_may_turn (machine_of set) (cost_of set) c p x here)

  -- a turn goes on exactly where the machine with stall turns may take it,
  pub goes_is : (c : ClockState) (p : ℕ) → p < length c.locals → goes (turn_in set c p) ≡ is_enabled (clocked set) c p
  goes_is c p below =
      ⊎_elim
      (λ here. goes_here c p here.0 here.2)
      (λ past. absurd (omega (arith, below, past.0)))
      (slice_get_cases c.locals p).1

  -- and is a step where the processor is enabled and owes nothing
  pub fired_is : (c : ClockState) (p : ℕ) → p < length c.locals
      → is_fired (turn_in set c p) ≡ (is_enabled (machine_of set) (machine_at c) p && not (owes set c p))
  fired_is c p below =
      ⊎_elim
      (λ here. (kinds_here c p here.0 here.2).fired)
      (λ past. absurd (omega (arith, below, past.0)))
      (slice_get_cases c.locals p).1

  -- the steps of a cycle are those whose turn is one
  pub all_fired_is : (c : ClockState) → length c.locals ≡ proc_count set.topo → fired set c ≡ all_fired (machine_of set) (cost_of set) c
  all_fired_is c many =
      ap (λ n. filter (λ p. is_fired (turn_in set c p)) (range_with_len 0 n)) (sym many)
      ∙ filtered_alike (λ p. is_fired (turn_in set c p)) (λ p. is_enabled (machine_of set) (machine_at c) p && not (owes set c p)) 0 (length c.locals)
      (λ p low high. fired_is c p (omega arith))
