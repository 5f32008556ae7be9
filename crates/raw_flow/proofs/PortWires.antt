-- The wires of sources and sinks.
use Rattle.std.proofs.Common.{◌≡◌, ℕ, ◌+◌, ◌*◌, ◌<◌, [], ◌∷◌, ◌++◌, length, Option, Some, None, refl, sym, ap, ◌∙◌, arith}
use Rattle.std.specs.Prelude.{slice_get}
use Rattle.std.specs.Option.{option_to_list}
use Rattle.raw_grid.specs.declared.parts.Net.{Net}
use Rattle.raw_grid.specs.declared.parts.Net.TheVariants.{One, Two}
use Rattle.raw_grid.specs.declared.parts.PortKind.TheVariants.{Source, Sink}
use Rattle.raw_grid.specs.declared.parts.PortPlace.{PortPlace}
use Rattle.raw_grid.specs.Ends.{side_end, tile_end}
use Rattle.raw_grid.specs.Topology.{Topology, IsTopology, tile_count, tile_number, switch_number, switch_at}
use Rattle.raw_grid.specs.Wires.{wires_of, input_wire, output_wire, producer_of, Joins}
use Rattle.raw_model.specs.Machine.{port_outputs, port_inputs}
use Rattle.raw_codegen.specs.Standing.{to_tile_wire, from_tile_wire}
use Rattle.raw_flow.proofs.Given.{Wires}

-- the wires between a tile and its switch
module _ (laws : Wires) (topo : Topology) (t : ℕ) (valid : IsTopology topo) (within : t < tile_count topo) where
  pub joins_to : (net : Net) → Joins topo (to_tile_wire net t) (switch_number topo t) (tile_end net) t (tile_end net)
  joins_to One = laws.to_tile_one topo t valid within
  joins_to Two = laws.to_tile_two topo t valid within

  pub joins_from : (net : Net) → Joins topo (from_tile_wire net t) t (tile_end net) (switch_number topo t) (tile_end net)
  joins_from One = laws.from_tile_one topo t valid within
  joins_from Two = laws.from_tile_two topo t valid within

one_of : (a b : Option ℕ) (w : ℕ) → a ≡ Some w → b ≡ None → option_to_list a ++ option_to_list b ≡ w ∷ []
one_of a b w ea eb = rw (ea, eb) refl

other_of : (a b : Option ℕ) (w : ℕ) → a ≡ None → b ≡ Some w → option_to_list a ++ option_to_list b ≡ w ∷ []
other_of a b w ea eb = rw (ea, eb) refl

none_of : (o : Option ℕ) → ((w : ℕ) → o ≡ Some w → ⊥) → o ≡ None
none_of None h = refl
none_of (Some w) h = absurd (h w refl)

-- of two ends that may have a wire, a port has one at its network's alone
one_end : (net : Net) (at : ℕ → Option ℕ) (w : ℕ) → at (tile_end net) ≡ Some w → ((i u : ℕ) → at i ≡ Some u → i ≡ tile_end net) → option_to_list (at 4) ++ option_to_list (at 9) ≡ w ∷ []
one_end One at w is only = one_of (at 4) (at 9) w is (none_of (at 9) (λ u e. let bad : 9 ≡ 4 = only 9 u e in omega arith))
one_end Two at w is only = other_of (at 4) (at 9) w (none_of (at 4) (λ u e. let bad : 4 ≡ 9 = only 4 u e in omega arith)) is

-- source q has a wire of its own, which leads to the side of its switch
pub record SourceWire (topo : Topology) (q : ℕ) (place : PortPlace) : Type 0 where
  pub wire : ℕ
  pub out : port_outputs topo (2 * tile_count topo + q) ≡ wire ∷ []
  pub into : input_wire topo (switch_at topo place.x place.y) (side_end place.net place.side) ≡ Some wire
  pub exists : wire < length (wires_of topo)
  pub apart : to_tile_wire place.net (tile_number topo place.x place.y) ≡ wire → ⊥

-- and so has a sink, which comes from there
pub record SinkWire (topo : Topology) (q : ℕ) (place : PortPlace) : Type 0 where
  pub wire : ℕ
  pub into : port_inputs topo (2 * tile_count topo + q) ≡ wire ∷ []
  pub out : output_wire topo (switch_at topo place.x place.y) (side_end place.net place.side) ≡ Some wire
  pub exists : wire < length (wires_of topo)
  pub apart : wire ≡ from_tile_wire place.net (tile_number topo place.x place.y) → ⊥

module _ (laws : Wires) (topo : Topology) (q : ℕ) (place : PortPlace) (valid : IsTopology topo) (at : slice_get topo.places q ≡ Some place) (within : tile_number topo place.x place.y < tile_count topo) where
  abbrev t : ℕ
  t = tile_number topo place.x place.y

  pub source_wire : place.kind ≡ Source → SourceWire topo q place
  source_wire kind =
      let a = laws.source topo q place valid at kind in
      let p : ℕ = 2 * tile_count topo + q in
      record {
        wire = a.0;
        out = one_end place.net (output_wire topo p) a.0 a.2.0 (λ i u e. (laws.port_output topo q place i u valid at e).1);
        into = a.2.1;
        exists = laws.output_exists topo p (tile_end place.net) a.0 a.2.0;
        apart = λ e.
            let x : producer_of topo (to_tile_wire place.net t) ≡ switch_number topo t =
            laws.output_owner topo (switch_number topo t) (tile_end place.net) (to_tile_wire place.net t) (joins_to laws topo t valid within place.net).0 in
            let y : producer_of topo a.0 ≡ p = laws.output_owner topo p (tile_end place.net) a.0 a.2.0 in
            let z : switch_number topo t ≡ p = sym x ∙ ap (producer_of topo) e ∙ y in
            omega arith;
      }

  pub sink_wire : place.kind ≡ Sink → SinkWire topo q place
  sink_wire kind =
      let b = laws.sink topo q place valid at kind in
      let p : ℕ = 2 * tile_count topo + q in
      record {
        wire = b.0;
        into = one_end place.net (input_wire topo p) b.0 b.2.1 (λ i u e. (laws.port_input topo q place i u valid at e).1);
        out = b.2.0;
        exists = laws.output_exists topo (switch_number topo t) (side_end place.net place.side) b.0 b.2.0;
        apart = λ e.
            let x : producer_of topo b.0 ≡ switch_number topo t = laws.output_owner topo (switch_number topo t) (side_end place.net place.side) b.0 b.2.0 in
            let y : producer_of topo (from_tile_wire place.net t) ≡ t =
            laws.output_owner topo t (tile_end place.net) (from_tile_wire place.net t) (joins_from laws topo t valid within place.net).0 in
            let z : switch_number topo t ≡ t = sym x ∙ ap (producer_of topo) e ∙ y in
            omega arith;
      }
