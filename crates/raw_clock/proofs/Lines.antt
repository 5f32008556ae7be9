-- Which numbers the line of a processor leaves out: they are 0.
use Rattle.std.proofs.Common.{◌≡◌, ◌≢◌, ℕ, zero, suc, ◌+◌, ◌-◌, ◌*◌, ◌≤◌, Bool, true, false, cond, ltb, List, Option, Some, None, refl, sym, ap, ◌∙◌, ⊎_elim, arith}
use Rattle.std.specs.Prelude.{option_map, slice_get}
use Rattle.std.specs.List.{count_by, range_with_len}
use Rattle.std.proofs.lemmas.Bool.{cases_eq, ltb-false, le-ltb}
use Rattle.raw_network.specs.Network.{count_of}
use Rattle.raw_grid.specs.declared.parts.PortKind.{PortKind}
use Rattle.raw_grid.specs.declared.parts.PortKind.TheVariants as port
use Rattle.raw_grid.specs.declared.parts.PortPlace.{PortPlace}
use Rattle.raw_grid.specs.declared.parts.ProcKind.{ProcKind}
use Rattle.raw_grid.specs.declared.parts.ProcKind.TheVariants.{Tile, Switch, Source, Sink}
use Rattle.raw_grid.specs.Topology.{Topology, IsTopology, tile_count, port_proc, kind_at}
use Rattle.raw_grid.specs.Wires.{input_wire, output_wire}
use Rattle.raw_grid.proofs.NoWire.{port_input, port_output}
use Rattle.raw_model.specs.Program.{ProgramSet, IsSet}
use Rattle.raw_model.specs.Rest.{stopped}
use Rattle.raw_model.specs.Waits.{inputs_at, outputs_at, first_wait}
use Rattle.raw_serial.specs.declared.turn.Turn.{Turn}
use Rattle.raw_serial.specs.declared.turn.Turn.TheVariants.{Fired, Stalled, Stopped, Waits}
use Rattle.raw_serial.specs.Turns.{turn_by}
use Rattle.raw_lockstep.specs.Stalls.{paid_by, touched_by}
use Rattle.raw_clock.specs.Clock.{ClockState, machine_at, clock, owes, turn_in, is_fired, is_stalled, is_stop, is_starved, is_blocked, waits_in, spent}
use Rattle.raw_clock.specs.Laws.{line_sum}
use Rattle.raw_clock.proofs.Counting.{one_if, count_more}
use Rattle.raw_clock.proofs.Ends.{input_end, output_end}
use Rattle.raw_clock.proofs.Telling.{no_cost, owes_is}

-- what no number passes is counted 0 times
none_pass : (f : ℕ → Bool) → ((k : ℕ) → f k ≡ false) → (n : ℕ) → count_by f (range_with_len 0 n) ≡ 0
none_pass f off zero = refl
none_pass f off (suc n) =
    let here : one_if (f (0 + n)) ≡ 0 = ap one_if (off (0 + n)) in
    omega (arith, none_pass f off n, here, count_more f 0 n)

-- a processor that owes nothing has no stall turn
not_stalled : (stops owing : Bool) (wait : Option ℕ) → owing ≡ false → is_stalled (turn_by stops owing wait) ≡ false
not_stalled true owing wait off = refl
not_stalled false true wait off = absurd (cc off)
not_stalled false false None off = refl
not_stalled false false (Some w) off = refl

-- nor does one wait for a wire of a list of none
not_waiting : (ws : List ℕ) → ((w : ℕ) → count_of w ws ≡ 0) → (t : Turn) → waits_in ws t ≡ false
not_waiting ws none Fired = refl
not_waiting ws none Stalled = refl
not_waiting ws none Stopped = refl
not_waiting ws none (Waits wire) = ap (λ n. ltb 0 n) (none wire.0)

-- what the kind of a processor says of its number: a switch is behind the tiles, and a port behind both
switch_by : (b : Bool) (o : Option ProcKind) (kind : ProcKind) → kind ≢ Tile → cond b (Some Tile) o ≡ Some kind → (b ≡ false) × (o ≡ Some kind)
switch_by true o kind off is = absurd (off (sym (cc is)))
switch_by false o kind off is = (refl, is)

port_by : (b : Bool) (o : Option ProcKind) (kind : ProcKind) → kind ≢ Switch → cond b (Some Switch) o ≡ Some kind → (b ≡ false) × (o ≡ Some kind)
port_by true o kind off is = absurd (off (sym (cc is)))
port_by false o kind off is = (refl, is)

place_by : (o : Option PortPlace) (kind : ProcKind) → option_map (λ (place : PortPlace). port_proc place.kind) o ≡ Some kind
    → (place : PortPlace) × (o ≡ Some place) × (port_proc place.kind ≡ kind)
place_by None kind is = absurd (cc is)
place_by (Some place) kind is = (place, refl, cc is)

-- a port of one kind is none of the other
source_is : (k : PortKind) → port_proc k ≡ Source → k ≡ port.Sink → ⊥
source_is port.Source is e = cc e
source_is port.Sink is e = cc is

sink_is : (k : PortKind) → port_proc k ≡ Sink → k ≡ port.Source → ⊥
sink_is port.Sink is e = cc e
sink_is port.Source is e = cc is

module _ (t : Topology) (valid : IsTopology t) (p : ℕ) (kind : ProcKind) (is : kind_at t p ≡ Some kind) where
  past_tiles : kind ≢ Tile → (ltb p (tile_count t) ≡ false)
      × (cond (ltb p (2 * tile_count t)) (Some Switch) (option_map (λ (place : PortPlace). port_proc place.kind) (slice_get t.places (p - 2 * tile_count t))) ≡ Some kind)
  past_tiles off = switch_by (ltb p (tile_count t)) _ kind off is

  pub behind_tiles : kind ≢ Tile → tile_count t ≤ p
  behind_tiles off = ltb-false p (tile_count t) (past_tiles off).0

  module _ (off : kind ≢ Tile) (neither : kind ≢ Switch) where
    the_place : (place : PortPlace) × (slice_get t.places (p - 2 * tile_count t) ≡ Some place) × (port_proc place.kind ≡ kind)
    the_place = place_by (slice_get t.places (p - 2 * tile_count t)) kind (port_by (ltb p (2 * tile_count t)) _ kind neither (past_tiles off).1).1

    number : p ≡ 2 * tile_count t + (p - 2 * tile_count t)
    number =
        let behind : 2 * tile_count t ≤ p = ltb-false p (2 * tile_count t) (port_by (ltb p (2 * tile_count t)) _ kind neither (past_tiles off).1).0 in
        omega (arith, behind)

    no_input : kind ≡ Source → (w : ℕ) → count_of w (inputs_at t p) ≡ 0
    no_input source w =
        ⊎_elim
        (λ (z : count_of w (inputs_at t p) ≡ 0). z)
        (λ (nz : count_of w (inputs_at t p) ≡ 0 → ⊥).
        let found = input_end t valid p w (omega arith) in
        let there : input_wire t (2 * tile_count t + (p - 2 * tile_count t)) found.0 ≡ Some w = ap (λ q. input_wire t q found.0) (sym number) ∙ found.1 in
        absurd (source_is the_place.0.kind (the_place.2 ∙ source) (port_input t (p - 2 * tile_count t) the_place.0 the_place.1 found.0 w valid there).0))
        (cases_eq (count_of w (inputs_at t p)) 0)

    no_output : kind ≡ Sink → (w : ℕ) → count_of w (outputs_at t p) ≡ 0
    no_output sink w =
        ⊎_elim
        (λ (z : count_of w (outputs_at t p) ≡ 0). z)
        (λ (nz : count_of w (outputs_at t p) ≡ 0 → ⊥).
        let found = output_end t valid p w (omega arith) in
        let there : output_wire t (2 * tile_count t + (p - 2 * tile_count t)) found.0 ≡ Some w = ap (λ q. output_wire t q found.0) (sym number) ∙ found.1 in
        absurd (sink_is the_place.0.kind (the_place.2 ∙ sink) (port_output t (p - 2 * tile_count t) the_place.0 the_place.1 found.0 w valid there).0))
        (cases_eq (count_of w (outputs_at t p)) 0)

module _ (set : ProgramSet) (valid : IsSet set) (n p : ℕ) where
  -- only a tile owes, and so pays
  pub never_stalled : tile_count set.topo ≤ p → spent set n p is_stalled ≡ 0
  never_stalled past =
      none_pass (λ k. is_stalled (turn_in set (clock set k) p))
      (λ k. not_stalled (stopped set (machine_at (clock set k)) p) (owes set (clock set k) p) (first_wait set (machine_at (clock set k)) p) (owes_not (clock set k))) n
    where
      owes_not : (c : ClockState) → owes set c p ≡ false
      owes_not c =
          owes_is set valid c p ∙ ap (λ cost. ltb (paid_by c p) cost) (no_cost set valid p (touched_by c p) past)
          ∙ le-ltb (paid_by c p) 0 (omega arith)

  -- a source waits for no value, and a sink for no room
  never_waiting : (ws : List ℕ) → ((w : ℕ) → count_of w ws ≡ 0) → spent set n p (λ turn. waits_in ws turn) ≡ 0
  never_waiting ws none = none_pass (λ k. waits_in ws (turn_in set (clock set k) p)) (λ k. not_waiting ws none (turn_in set (clock set k) p)) n

  pub line_adds_up : spent set n p is_fired + spent set n p is_stalled + spent set n p is_stop
      + spent set n p (is_starved set p) + spent set n p (is_blocked set p) ≡ n
      → (kind : ProcKind) → kind_at set.topo p ≡ Some kind → line_sum kind set n p ≡ n
  line_adds_up once Tile is = omega (arith, once)
  line_adds_up once Switch is = omega (arith, once, never_stalled (behind_tiles set.topo valid.topology p Switch is (λ e. cc e)))
  line_adds_up once Source is =
      let off : Source ≢ Tile = λ e. cc e in
      let none : spent set n p (is_starved set p) ≡ 0 =
      never_waiting (inputs_at set.topo p) (no_input set.topo valid.topology p Source is off (λ e. cc e) refl) in
      omega (arith, once, none, never_stalled (behind_tiles set.topo valid.topology p Source is off))
  line_adds_up once Sink is =
      let off : Sink ≢ Tile = λ e. cc e in
      let none : spent set n p (is_blocked set p) ≡ 0 =
      never_waiting (outputs_at set.topo p) (no_output set.topo valid.topology p Sink is off (λ e. cc e) refl) in
      omega (arith, once, none, never_stalled (behind_tiles set.topo valid.topology p Sink is off))
