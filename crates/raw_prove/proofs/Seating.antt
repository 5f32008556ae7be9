-- A turn of a processor as a turn of the machine.
use Rattle.std.proofs.Common.{◌≡◌, ℕ, ◌≤◌, Bool, length, map, set, Option, Some, None, sym, ap, ◌∙◌, subst, ⊎_elim, length-set}
use Rattle.std.specs.Prelude.{slice_get, IsSomeAnd}
use Rattle.std.specs.Option.{option_map}
use Rattle.std.proofs.lemmas.Bool.{cases_eq, le-leb}
use Rattle.std.proofs.lemmas.List.{map-set}
use Rattle.std.proofs.lemmas.Option.{same_Some}
use Rattle.raw_network.specs.Network.{taken, is_ready}
use Rattle.raw_network.proofs.Wires.{length-taken, length-appended, slice_get-set_same, slice_get-set_other}
use Rattle.raw_model.specs.Program.{ProgramSet}
use Rattle.raw_model.specs.Machine.{machine_of, takes}
use Rattle.raw_model.specs.Rest.{enabled}
use Rattle.raw_serial.proofs.Fields.{set_same, at_field}
use Rattle.raw_term.specs.declared.limits.TheConstants.{MAX_TERMS}
use Rattle.raw_term.specs.Terms.{Overflows}
use Rattle.raw_term.specs.TermMachine.{TermState, TermRow, after_row, term_step_from, term_step, numbered}
use Rattle.raw_prove.specs.declared.machine.Machine.{Machine}
use Rattle.raw_prove.specs.declared.turn.Turn.{Turn}
use Rattle.raw_prove.specs.declared.turn.Turn.TheVariants.{Idle, Fired, Hangs, TooMany}
use Rattle.raw_prove.specs.declared.unit.Unit.{Unit}
use Rattle.raw_prove.specs.Units.{local_of, IsUnit, AreUnits, state_of, MachineStands}
use Rattle.raw_prove.specs.Turns.{ready, next_row, IsAfter, IsIdle, IsTurn, IsTurnOf}

module _ (set_ : ProgramSet) (p : ℕ) (old new : Machine) (x y : Unit) (stands : MachineStands set_ old) (here : slice_get old.units.items p ≡ Some x)
    (units : new.units.items ≡ set old.units.items p y) (ends : new.ends.items ≡ old.ends.items) (is_unit : IsUnit set_ p y) (few : length new.table ≤ MAX_TERMS) where
  abbrev g : ProgramSet
  g = numbered set_

  abbrev s : TermState
  s = state_of old

  local_here : slice_get s.state.locals p ≡ Some (local_of x)
  local_here = at_field local_of old.units.items p x here

  locals_are : map local_of new.units.items ≡ set s.state.locals p (local_of y)
  locals_are = ap (map local_of) units ∙ map-set local_of old.units.items p y

  units_then : AreUnits set_ new.units.items
  units_then q z e =
      let at : slice_get (set old.units.items p y) q ≡ Some z = ap (λ xs. slice_get xs q) (sym units) ∙ e in
      ⊎_elim
      (λ (is : q ≡ p).
      let found : slice_get (set old.units.items p y) p ≡ Some z = subst (λ k. slice_get (set old.units.items p y) k ≡ Some z) is at in
      let same : y ≡ z = same_Some y z (sym (slice_get-set_same old.units.items p y x here) ∙ found) in
      subst (λ k. IsUnit set_ k z) (sym is) (subst (IsUnit set_ p) same is_unit))
      (λ (other : q ≡ p → ⊥). stands.units q z (sym (slice_get-set_other old.units.items p q y other) ∙ at))
      (cases_eq q p)

  stands_then : length new.wires ≡ length old.wires → MachineStands set_ new
  stands_then many = record {
    each = ap length units ∙ length-set old.units.items p y ∙ stands.each;
    units = units_then;
    each_end = ap length ends ∙ stands.each_end;
    ends = λ q e f. stands.ends q e (ap (λ xs. slice_get xs q) (sym ends) ∙ f);
    wires = many ∙ stands.wires;
  }

  may_be : (b : Bool) → ready g p (local_of x) old.wires ≡ b → enabled g s.state p ≡ b
  may_be b e = ap (λ o. is_ready (machine_of g) p o old.wires) local_here ∙ e

  step_is : term_step g s p ≡ option_map (after_row s.state p (takes g p (local_of x))) (next_row g old.table p (local_of x) old.wires)
  step_is = ap (term_step_from g s p) local_here

  same_state : IsIdle g p old.table (local_of x) old.wires new.table (local_of y) new.wires → state_of new ≡ s
  same_state turn =
      let locals : map local_of new.units.items ≡ s.state.locals =
      locals_are ∙ ap (set s.state.locals p) turn.local_stays ∙ set_same s.state.locals p (local_of x) local_here in
      λ i. record { nodes = turn.nodes_stay i; state = record { locals = locals i; wires = turn.wires_stay i } }

  after_is : (r : TermRow) → IsAfter g p (local_of x) old.wires new.table (local_of y) new.wires r → after_row s.state p (takes g p (local_of x)) r ≡ state_of new
  after_is r is =
      let locals : set s.state.locals p r.row.next ≡ map local_of new.units.items = ap (set s.state.locals p) is.next_is ∙ sym locals_are in
      λ i. record { nodes = is.nodes_are i; state = record { locals = locals i; wires = is.wires_are i } }

  abbrev does_it : Option TermRow → Type 0
  does_it o = IsSomeAnd o (IsAfter g p (local_of x) old.wires new.table (local_of y) new.wires)

  fired_state : (o : Option TermRow) → does_it o → option_map (after_row s.state p (takes g p (local_of x))) o ≡ Some (state_of new)
  fired_state None h = absurd h
  fired_state (Some r) h = ap Some (after_is r h)

  fired_wires : (o : Option TermRow) → does_it o → length new.wires ≡ length old.wires
  fired_wires None h = absurd h
  fired_wires (Some r) h =
      ap length (sym h.wires_are) ∙ length-appended r.row.sent (taken (takes g p (local_of x)) old.wires) ∙ length-taken (takes g p (local_of x)) old.wires

  over_state : (o : Option TermRow) → IsSomeAnd o (λ (r : TermRow). Overflows r.nodes) → IsSomeAnd (option_map (after_row s.state p (takes g p (local_of x))) o) (λ (t : TermState). Overflows t.nodes)
  over_state None h = h
  over_state (Some r) h = h

  pub seated : (turn : Turn) → IsTurn g p old.table (local_of x) old.wires turn new.table (local_of y) new.wires → IsTurnOf set_ p old turn new
  seated Idle turn = record { waits = may_be _ turn.waits; stays = same_state turn; stands = stands_then (ap length turn.wires_stay) }
  seated Fired turn = record {
    may = may_be _ turn.may;
    does = step_is ∙ fired_state (next_row g old.table p (local_of x) old.wires) turn.does;
    within = le-leb (length new.table) MAX_TERMS few;
    stands = stands_then (fired_wires (next_row g old.table p (local_of x) old.wires) turn.does);
  }
  seated Hangs turn = record { may = may_be _ turn.may; wants = step_is ∙ ap (option_map (after_row s.state p (takes g p (local_of x)))) turn.wants }
  seated TooMany turn = record {
    may = may_be _ turn.may;
    over = subst (λ (o : Option TermState). IsSomeAnd o (λ (t : TermState). Overflows t.nodes)) (sym step_is) (over_state (next_row g old.table p (local_of x) old.wires) turn.over);
  }
