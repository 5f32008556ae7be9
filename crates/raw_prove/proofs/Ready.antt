-- When a processor may step, and the room for what it sends.
use Rattle.std.proofs.Common.{◌≡◌, ℕ, ◌+◌, ◌-◌, ◌*◌, ◌<◌, ◌≤◌, Bool, true, false, not, ◌&&◌, ltb, List, [], ◌∷◌, length, drop, Option, Some, None, refl, sym, ap, ◌∙◌, arith, zero, suc}
use Rattle.std.specs.Prelude.{slice_get, nat_le}
use Rattle.std.specs.List.{range_with_len}
use Rattle.std.proofs.lemmas.Bool.{and_from, ltb-true}
use Rattle.std.proofs.lemmas.List.{length-drop}
use Rattle.raw_network.specs.Network.{Sent, values_on, count_of, taken, has_values, has_room}
use Rattle.raw_network.specs.Runs.{sent_on}
use Rattle.raw_network.proofs.Wires.{all_at_count, wire_taken}
use Rattle.raw_network.proofs.Waits.{unmet}
use Rattle.raw_grid.specs.Topology.{tile_count}
use Rattle.raw_model.specs.Program.{ProgramSet, PortProgram}
use Rattle.raw_model.specs.Local.{Local, Tile, Switch, Sink, TileLocal, SwitchLocal, PortLocal}
use Rattle.raw_model.specs.Machine.{machine_of, takes, sends, is_stopped, port_program, capacity_of}
use Rattle.raw_model.specs.Waits.{inputs_at, outputs_at}
use Rattle.raw_model.proofs.Once.{sends_once}
use Rattle.raw_model.specs.Bounds.{all_words}
use Rattle.raw_serial.specs.Needs.{unmet_of}
use Rattle.raw_serial.proofs.Stepping.{met_by}
use Rattle.raw_model.specs.Fed.{fed_ports}
use Rattle.raw_term.specs.TermMachine.{numbered}
use Rattle.raw_prove.specs.Turns.{ready}

and_none : (b c : Bool) → c ≡ false → (b && c) ≡ false
and_none true c e = e
and_none false c e = refl

some_none : (w : ℕ) (o : Option ℕ) → o ≡ Some w → o ≡ None → ⊥
some_none w o e f = cc (sym e ∙ f)

-- what is no value is none
pub none_left : {A : Type 0} (o : Option A) → ((x : A) → o ≡ Some x → ⊥) → o ≡ None
none_left None other = refl
none_left (Some x) other = absurd (other x refl)

module _ (g : ProgramSet) (p : ℕ) (l : Local) (wires : List (List ℕ)) where
  pub ready_met : is_stopped g p l ≡ false → unmet_of g p l wires ≡ None → ready g p l wires ≡ true
  unfolding machine_of
  ready_met going none =
      let both = met_by g p l wires none in
      and_from (not (is_stopped g p l)) (has_values (takes g p l) wires && has_room g.depth (sends g p l) wires) (ap not going)
      (and_from (has_values (takes g p l) wires) (has_room g.depth (sends g p l) wires) both.0 both.1)

  pub ready_stopped : is_stopped g p l ≡ true → ready g p l wires ≡ false
  unfolding machine_of
  ready_stopped e = ap (λ b. not b && (has_values (takes g p l) wires && has_room g.depth (sends g p l) wires)) e

  pub ready_unmet : (w : ℕ) → unmet_of g p l wires ≡ Some w → ready g p l wires ≡ false
  unfolding machine_of
  ready_unmet w is =
      and_none (not (is_stopped g p l)) (has_values (takes g p l) wires && has_room g.depth (sends g p l) wires)
      (by (has_values (takes g p l) wires) (has_room g.depth (sends g p l) wires) refl refl)
    where
      by : (b c : Bool) → has_values (takes g p l) wires ≡ b → has_room g.depth (sends g p l) wires ≡ c → (b && c) ≡ false
      by true true e f =
          absurd (some_none w (unmet_of g p l wires) is (unmet g.depth (inputs_at g.topo p) (outputs_at g.topo p) (takes g p l) (sends g p l) wires e f))
      by true false e f = refl
      by false c e f = refl

  -- a processor names each wire that it sends to once
  pub once : (w : ℕ) → count_of w (sends g p l) ≤ 1
  unfolding machine_of
  once w = (sends_once g).named_once p l w

-- the room for what is sent is there after values are taken
pub room_by : (depth : ℕ) (ws us : List ℕ) (wires : List (List ℕ)) (ms : List Sent) (w : ℕ) → has_room depth ws wires ≡ true → depth ≤ 7
    → count_of w ws ≤ 1 → length (sent_on w ms) ≤ count_of w ws → 0 < length (sent_on w ms)
    → length (values_on (taken us wires) w) + length (sent_on w ms) ≤ 8
room_by depth ws us wires ms w room deep one named some =
    let below : length (values_on wires w) < depth =
    ltb-true (length (values_on wires w)) depth
    (all_at_count (λ v. ltb (length (values_on wires v)) depth) ws w room (omega arith)) in
    let left = ap length (wire_taken us wires w) in
    let less = length-drop (count_of w us) (values_on wires w) in
    omega arith

-- numbered words change nothing of when a processor may step
module _ (set : ProgramSet) (p : ℕ) (wires : List (List ℕ)) where
  pub ready_tile : (l : TileLocal) → ready (numbered set) p (Tile l) wires ≡ ready set p (Tile l) wires
  unfolding machine_of
  ready_tile l = refl

  pub ready_switch : (l : SwitchLocal) → ready (numbered set) p (Switch l) wires ≡ ready set p (Switch l) wires
  unfolding machine_of
  ready_switch l = refl

fed_capacity : (ports : List PortProgram) (xs : List ℕ) (i : ℕ) → capacity_of (slice_get (fed_ports ports xs) i) ≡ capacity_of (slice_get ports i)
fed_capacity [] xs i = refl
fed_capacity (port ∷ ports) xs zero = refl
fed_capacity (port ∷ ports) xs (suc i) = fed_capacity ports (drop (length port.words) xs) i

module _ (set : ProgramSet) (p : ℕ) (wires : List (List ℕ)) where
  pub capacity_same : capacity_of (port_program (numbered set) p) ≡ capacity_of (port_program set p)
  capacity_same = fed_capacity set.ports (range_with_len 1 (all_words set)) (p - 2 * tile_count set.topo)

  pub sink_stops : (l : PortLocal) → is_stopped (numbered set) p (Sink l) ≡ is_stopped set p (Sink l)
  sink_stops l = ap (λ n. nat_le n l.done) capacity_same
