-- A turn of a processor as a turn of the machine.
use Rattle.std.proofs.Common.{◌≡◌, ℕ, Bool, length, map, set, Option, Some, None, sym, ap, ◌∙◌, subst, ⊎_elim, length-set}
use Rattle.std.specs.Prelude.{slice_get, IsSomeAnd}
use Rattle.std.specs.Option.{option_map}
use Rattle.std.proofs.lemmas.Bool.{cases_eq}
use Rattle.std.proofs.lemmas.List.{map-set}
use Rattle.std.proofs.lemmas.Option.{same_Some}
use Rattle.raw_network.specs.Network.{taken, is_ready}
use Rattle.raw_network.proofs.Wires.{length-taken, length-appended, slice_get-set_same, slice_get-set_other}
use Rattle.raw_model.specs.Program.{ProgramSet}
use Rattle.raw_model.specs.Machine.{machine_of, takes}
use Rattle.raw_model.specs.Rest.{enabled}
use Rattle.raw_serial.proofs.Fields.{set_same, at_field}
use Rattle.raw_term.specs.TermMachine.{TermState, TermRow, after_row, term_step_from, term_step}
use Rattle.raw_prove.specs.declared.machine.Machine.{Machine}
use Rattle.raw_prove.specs.declared.turn.Turn.{Turn}
use Rattle.raw_prove.specs.declared.turn.Turn.TheVariants.{Idle, Fired, Hangs, TooMany}
use Rattle.raw_prove.specs.declared.unit.Unit.{Unit}
use Rattle.raw_prove.specs.Units.{local_of, state_of}
use Rattle.raw_prove.specs.Turns.{ready, next_row, IsAfter, IsTurn}
use Rattle.raw_cut.specs.Kept.{IsUnitWith, AreUnitsWith, IsKeptWith, IsTurnAt}

module _ (g : ProgramSet) (p : ℕ) (old new : Machine) (x y : Unit) (here : slice_get old.units.items p ≡ Some x)
    (units : new.units.items ≡ set old.units.items p y) (ends : new.ends.items ≡ old.ends.items) where
  abbrev s : TermState
  s = state_of old

  pub local_here : slice_get s.state.locals p ≡ Some (local_of x)
  local_here = at_field local_of old.units.items p x here

  locals_are : map local_of new.units.items ≡ set s.state.locals p (local_of y)
  locals_are = ap (map local_of) units ∙ map-set local_of old.units.items p y

  module _ (spare : ℕ) (stands : IsKeptWith g spare old) (is_unit : IsUnitWith g spare p y) (many : length new.wires ≡ length old.wires) where
    units_then : AreUnitsWith g spare new.units.items
    units_then q z e =
        let at : slice_get (set old.units.items p y) q ≡ Some z = ap (λ xs. slice_get xs q) (sym units) ∙ e in
        ⊎_elim
        (λ (is : q ≡ p).
        let found : slice_get (set old.units.items p y) p ≡ Some z = subst (λ k. slice_get (set old.units.items p y) k ≡ Some z) is at in
        let same : y ≡ z = same_Some y z (sym (slice_get-set_same old.units.items p y x here) ∙ found) in
        subst (λ k. IsUnitWith g spare k z) (sym is) (subst (IsUnitWith g spare p) same is_unit))
        (λ (other : q ≡ p → ⊥). stands.units q z (sym (slice_get-set_other old.units.items p q y other) ∙ at))
        (cases_eq q p)

    pub kept_then : IsKeptWith g spare new
    kept_then = record {
      valid = stands.valid;
      each = ap length units ∙ length-set old.units.items p y ∙ stands.each;
      units = units_then;
      each_end = ap length ends ∙ stands.each_end;
      ends = λ q e f. stands.ends q e (ap (λ xs. slice_get xs q) (sym ends) ∙ f);
      wires = many ∙ stands.wires;
    }

  pub may_be : (b : Bool) → ready g p (local_of x) old.wires ≡ b → enabled g s.state p ≡ b
  may_be b e = ap (λ o. is_ready (machine_of g) p o old.wires) local_here ∙ e

  pub step_is : term_step g s p ≡ option_map (after_row s.state p (takes g p (local_of x))) (next_row g old.table p (local_of x) old.wires)
  step_is = ap (term_step_from g s p) local_here

  pub unchanged : new.table ≡ old.table → local_of y ≡ local_of x → new.wires ≡ old.wires → state_of new ≡ s
  unchanged nodes_stay local_stays wires_stay =
      let locals : map local_of new.units.items ≡ s.state.locals =
      locals_are ∙ ap (set s.state.locals p) local_stays ∙ set_same s.state.locals p (local_of x) local_here in
      λ i. record { nodes = nodes_stay i; state = record { locals = locals i; wires = wires_stay i } }

  pub after_is : (r : TermRow) → IsAfter g p (local_of x) old.wires new.table (local_of y) new.wires r → after_row s.state p (takes g p (local_of x)) r ≡ state_of new
  after_is r is =
      let locals : set s.state.locals p r.row.next ≡ map local_of new.units.items = ap (set s.state.locals p) is.next_is ∙ sym locals_are in
      λ i. record { nodes = is.nodes_are i; state = record { locals = locals i; wires = is.wires_are i } }

  abbrev does_it : Option TermRow → Type 0
  does_it o = IsSomeAnd o (IsAfter g p (local_of x) old.wires new.table (local_of y) new.wires)

  fired_state : (o : Option TermRow) → does_it o → option_map (after_row s.state p (takes g p (local_of x))) o ≡ Some (state_of new)
  fired_state None h = absurd h
  fired_state (Some r) h = ap Some (after_is r h)

  fired_wires : (o : Option TermRow) → does_it o → length new.wires ≡ length old.wires
  fired_wires None h = absurd h
  fired_wires (Some r) h =
      ap length (sym h.wires_are) ∙ length-appended r.row.sent (taken (takes g p (local_of x)) old.wires) ∙ length-taken (takes g p (local_of x)) old.wires

  module _ (units_kept : (spare : ℕ) → IsKeptWith g spare old → IsUnitWith g spare p y) where
    pub seated : (turn : Turn) → IsTurn g p old.table (local_of x) old.wires turn new.table (local_of y) new.wires → IsTurnAt g p old turn new
    seated Idle turn = record {
      waits = may_be _ turn.waits;
      stays = unchanged turn.nodes_stay turn.local_stays turn.wires_stay;
      kept = λ spare stands. kept_then spare stands (units_kept spare stands) (ap length turn.wires_stay);
    }
    seated Fired turn = record {
      may = may_be _ turn.may;
      does = step_is ∙ fired_state (next_row g old.table p (local_of x) old.wires) turn.does;
      kept = λ spare stands. kept_then spare stands (units_kept spare stands) (fired_wires (next_row g old.table p (local_of x) old.wires) turn.does);
    }
    seated Hangs turn = tt
    seated TooMany turn = tt
