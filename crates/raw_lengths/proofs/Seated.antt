-- A look at a processor as a look at the machine.
use Rattle.std.proofs.Common.{◌≡◌, ℕ, List, [], ◌∷◌, ◌++◌, length, set, Option, Some, None, sym, ap, ◌∙◌}
use Rattle.std.specs.Prelude.{slice_get, IsSomeAnd}
use Rattle.std.specs.Option.{option_map}
use Rattle.raw_network.specs.Network.{fronts, taken}
use Rattle.raw_network.proofs.Wires.{length-taken, length-appended}
use Rattle.raw_model.specs.Program.{ProgramSet}
use Rattle.raw_model.specs.Machine.{takes}
use Rattle.raw_term.specs.TermMachine.{TermState, after_row, term_step}
use Rattle.raw_prove.specs.declared.machine.Machine.{Machine}
use Rattle.raw_prove.specs.declared.unit.Unit.{Unit}
use Rattle.raw_prove.specs.Units.{local_of, state_of}
use Rattle.raw_rows.specs.Noted.{NotedRow, noted_at, after_noted, noted_row, noted_step_from, noted_step, step_or_noted, noting_step}
use Rattle.raw_cut.specs.Kept.{IsUnitWith, IsKeptWith}
use Rattle.raw_cut.proofs.Seating.{local_here, kept_then, may_be, step_is, unchanged, after_is}
use Rattle.raw_lengths.specs.declared.noting.Look.{Look}
use Rattle.raw_lengths.specs.declared.noting.Look.TheVariants.{Other, Noted, TooMany}
use Rattle.raw_lengths.specs.Noting.{IsNotedAfter, IsNoted, IsLook, IsLookOf}

module _ (g : ProgramSet) (p : ℕ) (old new : Machine) (x y : Unit) (here : slice_get old.units.items p ≡ Some x)
    (units : new.units.items ≡ set old.units.items p y) (ends : new.ends.items ≡ old.ends.items) (units_kept : (spare : ℕ) → IsKeptWith g spare old → IsUnitWith g spare p y) where
  abbrev s : TermState
  s = state_of old

  module _ (term : ℕ) (noted : IsNoted g p old.table (local_of x) old.wires term new.table (local_of y) new.wires) where
    abbrev does_it : Option NotedRow → Type 0
    does_it o = IsSomeAnd o (IsNotedAfter g p (local_of x) old.wires term new.table (local_of y) new.wires)

    noted_state : (terms : List ℕ) (o : Option NotedRow) → does_it o → option_map (after_noted s.state p (takes g p (local_of x)) terms) o ≡ Some (noted_at (state_of new) (terms ++ term ∷ []))
    noted_state terms None h = absurd h
    noted_state terms (Some n) h = λ i. Some (noted_at (after_is g p old new x y here units ends n.row h.after i) (terms ++ h.term_is i ∷ []))

    noted_wires : (o : Option NotedRow) → does_it o → length new.wires ≡ length old.wires
    noted_wires None h = absurd h
    noted_wires (Some n) h =
        ap length (sym h.after.wires_are) ∙ length-appended n.row.row.sent (taken (takes g p (local_of x)) old.wires) ∙ length-taken (takes g p (local_of x)) old.wires

    step_noted : (terms : List ℕ) → noting_step g (noted_at s terms) p ≡ Some (noted_at (state_of new) (terms ++ term ∷ []))
    step_noted terms =
        let none : term_step g s p ≡ None = step_is g p old new x y here units ends ∙ ap (option_map (after_row s.state p (takes g p (local_of x)))) noted.hangs in
        ap (λ (o : Option TermState). step_or_noted terms o (noted_step g (noted_at s terms) p)) none
        ∙ ap (noted_step_from g (noted_at s terms) p) (local_here g p old new x y here units ends)
        ∙ noted_state terms (noted_row g old.table p (local_of x) (fronts (takes g p (local_of x)) old.wires)) noted.does

  pub look_seated : (look : Look) → IsLook g p old.table (local_of x) old.wires look new.table (local_of y) new.wires → IsLookOf g p old look new
  look_seated Other h = record {
    stays = unchanged g p old new x y here units ends h.nodes_stay h.local_stays h.wires_stay;
    kept = λ spare stands. kept_then g p old new x y here units ends spare stands (units_kept spare stands) (ap length h.wires_stay);
  }
  look_seated (Noted term) h = record {
    may = may_be g p old new x y here units ends _ h.may;
    does = step_noted term h;
    kept = λ spare stands. kept_then g p old new x y here units ends spare stands (units_kept spare stands)
        (noted_wires term h (noted_row g old.table p (local_of x) (fronts (takes g p (local_of x)) old.wires)) h.does);
  }
  look_seated TooMany h = tt
