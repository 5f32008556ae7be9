-- What a machine may do with fewer words it may do with more, and it does the same.
use Rattle.std.proofs.Common.{◌≡◌, ℕ, zero, suc, ◌+◌, ◌-◌, ◌*◌, ◌<◌, ◌≤◌, Bool, true, false, not, ◌&&◌, leb, List, [], ◌∷◌, ◌++◌, length, map, Option, Some, None, refl, sym, ap, ap₂, ◌∙◌, subst, arith}
use Rattle.std.specs.Prelude.{slice_get, slice_set, slice_index, ◌==◌}
use Rattle.std.specs.List.{flat_map, filter_map}
use Rattle.std.proofs.lemmas.Bool.{and_parts, leb-false, lt-leb}
use Rattle.std.proofs.lemmas.List.{length-append}
use Rattle.raw_network.specs.Network.{Network, fronts, taken, appended, has_values, has_room, is_ready, step_from, step, event_from}
use Rattle.raw_network.specs.Runs.{IsLawful, end_of, events, events_of, sent_on, with_first}
use Rattle.raw_grid.specs.Topology.{tile_count}
use Rattle.raw_model.specs.Program.{ProgramSet, PortProgram}
use Rattle.raw_model.specs.Local.{Local, Tile, Switch, Source, Sink}
use Rattle.raw_model.specs.Machine.{words_of, capacity_of, port_outputs, is_stopped, takes, sends, row, machine_of}
use Rattle.raw_model.specs.Start.{MachineState, start}
use Rattle.raw_model.specs.Rest.{IsLawfulFrom}
use Rattle.raw_model.specs.MoreWords.{HasMoreWords, AreAlikeButMoreWords, RunsOn}

-- a network that does each step that another may do
record DoesAsMuch (net other : Network Local) : Type 0 where
  pub depth : net.depth ≡ other.depth
  pub takes : (p : ℕ) (l : Local) → net.takes p l ≡ other.takes p l
  pub sends : (p : ℕ) (l : Local) → net.sends p l ≡ other.sends p l
  pub goes : (p : ℕ) (l : Local) → net.is_stopped p l ≡ false → other.is_stopped p l ≡ false
  pub row : (p : ℕ) (l : Local) (values : List ℕ) → net.is_stopped p l ≡ false → net.row p l values ≡ other.row p l values

not_true : (b : Bool) → not b ≡ true → b ≡ false
not_true true e = cc e
not_true false e = refl

module _ (net other : Network Local) (much : DoesAsMuch net other) where
  record IsSameStep (s : MachineState) (p : ℕ) (here : Option Local) : Type 0 where
    pub ready : is_ready other p here s.wires ≡ true
    pub after : step_from net s p here ≡ step_from other s p here
    pub did : event_from net s.wires p here ≡ event_from other s.wires p here

  same_step : (s : MachineState) (p : ℕ) (here : Option Local) → is_ready net p here s.wires ≡ true → IsSameStep s p here
  same_step s p None on = absurd (cc on)
  same_step s p (Some l) on =
      let going : net.is_stopped p l ≡ false = not_true (net.is_stopped p l) (and_parts _ _ on).0 in
      let room = (and_parts _ _ on).1 in
      let values = fronts (net.takes p l) s.wires in
      let same_values : values ≡ fronts (other.takes p l) s.wires = ap (λ ws. fronts ws s.wires) (much.takes p l) in
      let same_row : net.row p l values ≡ other.row p l (fronts (other.takes p l) s.wires) = much.row p l values going ∙ ap (other.row p l) same_values in
      record {
        ready =
            ap (λ b. not b && (has_values (other.takes p l) s.wires && has_room other.depth (other.sends p l) s.wires)) (much.goes p l going)
            ∙ sym (λ i. has_values (much.takes p l i) s.wires && has_room (much.depth i) (much.sends p l i) s.wires)
            ∙ room;
        after = λ i. record {
          locals = slice_set s.locals p (same_row i).next;
          wires = appended (same_row i).sent (taken (much.takes p l i) s.wires);
        };
        did = λ i. record {
          from = much.takes p l i;
          took = same_values i;
          sent = (same_row i).sent;
          touched = (same_row i).touched;
          after = Some (same_row i).next;
        };
      }

  record IsSameRun (s : MachineState) (steps : List ℕ) : Type 0 where
    pub lawful : IsLawful other s steps
    pub ends : end_of net s steps ≡ end_of other s steps
    pub did : events net s steps ≡ events other s steps
    pub did_by : (p : ℕ) → events_of net s steps p ≡ events_of other s steps p

  same_run : (s : MachineState) (steps : List ℕ) → IsLawful net s steps → IsSameRun s steps
  same_run s [] lawful = record { lawful = tt; ends = refl; did = refl; did_by = λ p. refl }
  same_run s (p ∷ ps) lawful =
      let one = same_step s p (slice_get s.locals p) lawful.0 in
      let rest = same_run (step net s p) ps lawful.1 in
      record {
        lawful = (one.ready, subst (λ t. IsLawful other t ps) one.after rest.lawful);
        ends = rest.ends ∙ ap (λ t. end_of other t ps) one.after;
        did = ap₂ (λ e es. e ∷ es) one.did (rest.did ∙ ap (λ t. events other t ps) one.after);
        did_by = λ q. ap₂ (with_first (p == q)) one.did (rest.did_by q ∙ ap (λ t. events_of other t ps q) one.after);
      }

-- a place inside the first of two lists
index_front : (xs ys : List ℕ) (i : ℕ) → i < length xs → slice_index (xs ++ ys) i ≡ slice_index xs i
index_front [] ys i below = absurd (omega arith)
index_front (x ∷ xs) ys zero below = refl
index_front (x ∷ xs) ys (suc i) below = index_front xs ys i (omega arith)

-- the words of a port, with fewer and with more
record AreMore (few more : Option PortProgram) : Type 0 where
  pub longer : length (words_of few) ≤ length (words_of more)
  pub front : (i : ℕ) → i < length (words_of few) → slice_index (words_of few) i ≡ slice_index (words_of more) i
  pub capacity : capacity_of few ≡ capacity_of more

are_more : (few more : List PortProgram) → length few ≡ length more
    → ((i : ℕ) (f m : PortProgram) → slice_get few i ≡ Some f → slice_get more i ≡ Some m → HasMoreWords f m)
    → (i : ℕ) → AreMore (slice_get few i) (slice_get more i)
are_more [] [] many each i = record { longer = omega arith; front = λ i below. absurd (omega arith); capacity = refl }
are_more [] (m ∷ ms) many each i = absurd (cc many)
are_more (f ∷ fs) [] many each i = absurd (cc many)
are_more (f ∷ fs) (m ∷ ms) many each zero =
    let has = each zero f m refl refl in
    let whole : f.words ++ has.words.0 ≡ m.words = has.words.1 in
    let long = length-append f.words has.words.0 in
    let same = ap length whole in
    record {
      longer = omega (arith, long, same);
      front = λ i below. sym (index_front f.words has.words.0 i below) ∙ ap (λ ws. slice_index ws i) whole;
      capacity = has.capacity;
    }
are_more (f ∷ fs) (m ∷ ms) many each (suc i) = are_more fs ms (cc many) (λ j. each (suc j)) i

module _ (set : ProgramSet) (ports : List PortProgram) (more : (i : ℕ) → AreMore (slice_get set.ports i) (slice_get ports i)) where
  abbrev other : ProgramSet
  other = record set { ports = ports }

  goes_on : (p : ℕ) (l : Local) → is_stopped set p l ≡ false → is_stopped other p l ≡ false
  goes_on p (Tile l) going = going
  goes_on p (Switch l) going = going
  goes_on p (Source l) going =
      let words = more (p - 2 * tile_count set.topo) in
      let long = words.longer in
      let below = leb-false (length (words_of (slice_get set.ports (p - 2 * tile_count set.topo)))) l.done going in
      lt-leb (length (words_of (slice_get ports (p - 2 * tile_count set.topo)))) l.done (omega (arith, long, below))
  goes_on p (Sink l) going = ap (λ n. leb n l.done) (sym (more (p - 2 * tile_count set.topo)).capacity) ∙ going

  same_row_of : (p : ℕ) (l : Local) (values : List ℕ) → is_stopped set p l ≡ false → row set p l values ≡ row other p l values
  same_row_of p (Tile l) values going = refl
  same_row_of p (Switch l) values going = refl
  same_row_of p (Source l) values going =
      let below = leb-false (length (words_of (slice_get set.ports (p - 2 * tile_count set.topo)))) l.done going in
      let value = (more (p - 2 * tile_count set.topo)).front l.done below in
      λ i. record {
        next = Source (record l { done = l.done + 1 });
        sent = map (λ w. record { wire = w; value = value i }) (port_outputs set.topo p);
        touched = None;
      }
  same_row_of p (Sink l) values going = refl

  does_as_much : DoesAsMuch (machine_of set) (machine_of other)
  unfolding machine_of
  does_as_much = record {
    depth = refl;
    takes = same_takes;
    sends = same_sends;
    goes = goes_on;
    row = same_row_of;
  }
    where
      same_takes : (p : ℕ) (l : Local) → takes set p l ≡ takes other p l
      same_takes p (Tile l) = refl
      same_takes p _ = refl

      same_sends : (p : ℕ) (l : Local) → sends set p l ≡ sends other p l
      same_sends p (Tile l) = refl
      same_sends p _ = refl

  runs_other : (s : MachineState) (steps : List ℕ) → IsLawfulFrom set s steps → RunsOn set other s steps
  runs_other s steps lawful =
      let run = same_run (machine_of set) (machine_of other) does_as_much s steps lawful in
      record {
        lawful = run.lawful;
        same_end = sym run.ends;
        same_events = λ i. ap (λ es. slice_get es i) (sym run.did);
        same_passed = λ wire. ap (flat_map (λ e. sent_on wire e.sent)) (sym run.did);
        same_touches = λ tile. ap (filter_map (λ e. e.touched)) (sym (run.did_by tile));
      }

  start_other : start other ≡ start set
  unfolding start
  start_other = refl

pub runs_on : (few more : ProgramSet) (s : MachineState) (steps : List ℕ) → AreAlikeButMoreWords few more → IsLawfulFrom few s steps
    → RunsOn few more s steps
runs_on few more s steps alike lawful =
    subst (λ set. RunsOn few set s steps) alike.rest
    (runs_other few more.ports (are_more few.ports more.ports alike.many alike.each) s steps lawful)

pub same_start : (few more : ProgramSet) → AreAlikeButMoreWords few more → start more ≡ start few
same_start few more alike =
    ap start (sym alike.rest) ∙ start_other few more.ports (are_more few.ports more.ports alike.many alike.each)
