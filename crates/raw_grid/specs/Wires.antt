-- The wires of a grid, in the order of their numbers. A `Wire` of src/wire.rt leads from output end
-- `output` of processor `from` to input end `input` of processor `to`.
use Rattle.std.specs.Prelude.{◌≡◌, ℕ, ◌*◌, ◌/◌, ◌%◌, ◌&&◌, ◌==◌, Option, Some, option_map, List, [], ◌∷◌, ◌++◌, map, slice_index_or}
use Rattle.std.specs.List.{position, flat_map, filter_map, enumerate_from, range_with_len}
use Rattle.raw_grid.specs.declared.parts.Net.{Net}
use Rattle.raw_grid.specs.declared.parts.Net.TheVariants.{One, Two}
use Rattle.raw_grid.specs.declared.parts.Side.{Side}
use Rattle.raw_grid.specs.declared.parts.Dir.{Dir}
use Rattle.raw_grid.specs.declared.parts.Way.{Way}
use Rattle.raw_grid.specs.declared.parts.Way.TheVariants.{In, Out}
use Rattle.raw_grid.specs.declared.parts.PortKind.{PortKind}
use Rattle.raw_grid.specs.declared.parts.PortKind.TheVariants.{Source, Sink}
use Rattle.raw_grid.specs.declared.parts.PortPlace.{PortPlace}
pub use Rattle.raw_grid.specs.declared.wire.Wire.{Wire}
pub use Rattle.raw_grid.specs.Ends.{all_sides}
use Rattle.raw_grid.specs.Ends.{end_index, side_end, tile_end, opposite}
use Rattle.raw_grid.specs.Topology.{Topology, tile_count, switch_number, switch_at, neighbour}

-- the tiles in the order of their numbers
abbrev pub tiles_of : Topology → List ℕ
tiles_of t = range_with_len 0 (tile_count t)

-- the wire from a switch to its tile on a network
abbrev pub to_tile : Topology → ℕ → Net → Wire
to_tile t tile net =
    record { from = switch_number t tile; output = tile_end net; to = tile; input = tile_end net }

-- the wire from a tile to its switch on a network
abbrev pub from_tile : Topology → ℕ → Net → Wire
from_tile t tile net =
    record { from = tile; output = tile_end net; to = switch_number t tile; input = tile_end net }

-- the four wires between a tile and its switch: to the tile on each network, and then to the switch
abbrev pub tile_wires : Topology → ℕ → List Wire
tile_wires t tile =
    to_tile t tile One ∷ (to_tile t tile Two ∷ (from_tile t tile One ∷ (from_tile t tile Two ∷ [])))

-- the wires between tiles and their switches, of each tile by its number
abbrev pub all_tile_wires : Topology → List Wire
all_tile_wires t = flat_map (tile_wires t) (tiles_of t)

-- the link from a tile's switch at a side where the tile has a neighbour, to the neighbour's switch
abbrev pub link : Topology → Net → ℕ → Side → Option Wire
link t net tile s =
    option_map
    (λ next. record {
      from = switch_number t tile;
      output = side_end net s;
      to = switch_number t next;
      input = side_end net (opposite s);
    })
    (neighbour t (tile % t.cols) (tile / t.cols) s)

-- the links of a network that leave the switch of a tile, at the sides where it has a neighbour
abbrev pub links_from : Topology → Net → ℕ → List Wire
links_from t net tile = filter_map (link t net tile) all_sides

-- the links of a network, from each tile by its number
abbrev pub links_of : Topology → Net → List Wire
links_of t net = flat_map (links_from t net) (tiles_of t)

-- the wire of a port of this kind: from a source to the switch, or from the switch to a sink
abbrev pub port_wire_of : PortKind → Net → Side → ℕ → ℕ → Wire
port_wire_of Source net s p switch =
    record { from = p; output = tile_end net; to = switch; input = side_end net s }
port_wire_of Sink net s p switch =
    record { from = switch; output = side_end net s; to = p; input = tile_end net }

-- the wire of the port that is processor p and stands at this place
abbrev pub port_wire : Topology → ℕ → PortPlace → Wire
port_wire t p place =
    port_wire_of place.kind place.net place.side p (switch_at t place.x place.y)

-- the wires of the ports, in their order; the ports are the processors behind tiles and switches
abbrev pub port_wires : Topology → List Wire
port_wires t = map (λ port. port_wire t port.0 port.1) (enumerate_from (2 * tile_count t) t.places)

-- all wires by their numbers: those of the tiles, the links of each network, those of the ports
unfoldable pub wires_of : Topology → List Wire
wires_of t = all_tile_wires t ++ (links_of t One ++ (links_of t Two ++ port_wires t))

-- the number of the wire that leads to input end i of processor p, where there is one
unfoldable pub input_wire : Topology → ℕ → ℕ → Option ℕ
input_wire t p i = position (λ w. (w.to == p) && (w.input == i)) (wires_of t)

-- the number of the wire that comes from output end i of processor p, where there is one
unfoldable pub output_wire : Topology → ℕ → ℕ → Option ℕ
output_wire t p i = position (λ w. (w.from == p) && (w.output == i)) (wires_of t)

-- the number of the wire of processor p into or out of a direction on a network, where there is one
abbrev pub wire_at : Topology → ℕ → Way → Net → Dir → Option ℕ
wire_at t p In net dir = input_wire t p (end_index net dir)
wire_at t p Out net dir = output_wire t p (end_index net dir)

-- the number of the wire into or out of end i of processor p, where there is one
abbrev pub wire_at_end : Topology → ℕ → Way → ℕ → Option ℕ
wire_at_end t p In i = input_wire t p i
wire_at_end t p Out i = output_wire t p i

-- what stands for a wire past the last one: like every wire, it has two ends that differ
abbrev pub no_wire : Wire
no_wire = record { from = 1; output = 0; to = 0; input = 0 }

-- the processor that sends on wire number w
unfoldable pub producer_of : Topology → ℕ → ℕ
producer_of t w = (slice_index_or (wires_of t) w no_wire).from

-- the processor that takes from wire number w
unfoldable pub consumer_of : Topology → ℕ → ℕ
consumer_of t w = (slice_index_or (wires_of t) w no_wire).to

-- the output end of its producer from which wire number w comes
unfoldable pub producer_end : Topology → ℕ → ℕ
producer_end t w = (slice_index_or (wires_of t) w no_wire).output

-- the input end of its consumer to which wire number w leads
unfoldable pub consumer_end : Topology → ℕ → ℕ
consumer_end t w = (slice_index_or (wires_of t) w no_wire).input

-- the end of a wire that is not that of the processor which takes from it, or sends on it: a processor and the index of its end
abbrev pub far_end : Topology → Way → ℕ → ℕ × ℕ
far_end t In w = (producer_of t w, producer_end t w)
far_end t Out w = (consumer_of t w, consumer_end t w)

-- the other end of the wire into or out of end i of processor p, where there is one: a processor and the index of its end
abbrev pub other_end : Topology → ℕ → Way → ℕ → Option (ℕ × ℕ)
other_end t p way i = option_map (far_end t way) (wire_at_end t p way i)

-- wire number w leads from output end o of processor p to input end i of processor q
abbrev pub Joins : Topology → ℕ → ℕ → ℕ → ℕ → ℕ → Type 0
Joins t w p o q i = (output_wire t p o ≡ Some w) × (input_wire t q i ≡ Some w)
