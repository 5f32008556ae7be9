-- The names of processors and wires: what each number means.
use Rattle.std.specs.Prelude.{ℕ, ◌-◌, ◌*◌, Bool, ◌&&◌, nat_lt, nat_le, Option, Some, None, List, [], ◌++◌, length, codes, decimal, slice_get, slice_index_or, if◌then◌else◌}
use Rattle.std.specs.List.{flat_map, range_with_len}
use Rattle.raw_grid.specs.declared.parts.Net.TheVariants.{One}
use Rattle.raw_grid.specs.declared.parts.Dir.TheVariants.{N}
use Rattle.raw_grid.specs.declared.parts.End.{End}
use Rattle.raw_grid.specs.declared.parts.PortKind.{PortKind}
use Rattle.raw_grid.specs.declared.parts.PortKind.TheVariants.{Source, Sink}
use Rattle.raw_grid.specs.declared.parts.PortPlace.{PortPlace}
use Rattle.raw_grid.specs.Topology.{Topology, tile_count, proc_count}
use Rattle.raw_grid.specs.Wires.{wires_of, producer_of, producer_end, consumer_of, consumer_end}
use Rattle.raw_grid.specs.Names.{net_text, dir_text, kind_text, end, all_ends}
use Rattle.raw_model.specs.Program.{ProgramSet, PortProgram}
use Rattle.raw_model.specs.StateTexts.{port_place_text}
use Rattle.raw_state_text.specs.Parts.{place_text}

-- a port: what it is, and its place
abbrev pub port_name : PortPlace → List ℕ
port_name place = kind_text place.kind ++ codes " " ++ port_place_text place

abbrev pub port_name_of : Option PortPlace → List ℕ
port_name_of None = []
port_name_of (Some place) = port_name place

-- processor p: what it is, and where; tiles come first, then the switches, then the ports
unfoldable pub processor_name : Topology → ℕ → List ℕ
processor_name topo p =
    if nat_lt p (tile_count topo) then codes "tile " ++ place_text topo p
    else (if nat_lt p (2 * tile_count topo) then codes "switch " ++ place_text topo (p - tile_count topo)
    else port_name_of (slice_get topo.places (p - 2 * tile_count topo)))

-- how many words a source sends, or for how many a sink has room
abbrev pub given_to : PortKind → PortProgram → List ℕ
given_to Source port = codes " words " ++ decimal (length port.words)
given_to Sink port = codes " room " ++ decimal port.capacity

abbrev pub given_to_port : Option PortPlace → Option PortProgram → List ℕ
given_to_port (Some place) (Some port) = given_to place.kind port
given_to_port _ _ = []

-- the same of processor p; a tile or a switch has nothing of the kind
unfoldable pub given_text : ProgramSet → ℕ → List ℕ
given_text set p =
    if nat_lt p (2 * tile_count set.topo) then []
    else given_to_port (slice_get set.topo.places (p - 2 * tile_count set.topo)) (slice_get set.ports (p - 2 * tile_count set.topo))

-- the line of processor p
unfoldable pub processor_line : ProgramSet → ℕ → List ℕ
processor_line set p = codes "processor " ++ decimal p ++ codes " " ++ processor_name set.topo p ++ given_text set p ++ codes "\n"

-- the end with this index
abbrev pub end_at : ℕ → End
end_at index = slice_index_or all_ends index (end One N)

-- processor p is a switch
abbrev pub is_switch : Topology → ℕ → Bool
is_switch topo p = nat_le (tile_count topo) p && nat_lt p (2 * tile_count topo)

-- the side of processor p at which its end with this index is, where p is a switch: its neighbour's, or P, its tile's
unfoldable pub side_at : Topology → ℕ → ℕ → List ℕ
side_at topo p index = if is_switch topo p then codes " " ++ dir_text (end_at index).dir else []

-- the end with this index of processor p
unfoldable pub end_name : Topology → ℕ → ℕ → List ℕ
end_name topo p index = processor_name topo p ++ side_at topo p index

-- the line of wire w: its network, the end of the processor that sends on it, and that of the one that takes from it
unfoldable pub wire_line : Topology → ℕ → List ℕ
wire_line topo w =
    codes "wire " ++ decimal w ++ codes " network " ++ net_text (end_at (producer_end topo w)).net
    ++ codes " from " ++ end_name topo (producer_of topo w) (producer_end topo w)
    ++ codes " to " ++ end_name topo (consumer_of topo w) (consumer_end topo w) ++ codes "\n"

-- the lines of the processors, and those of the wires, by rising number
unfoldable pub processor_lines : ProgramSet → List ℕ
processor_lines set = flat_map (processor_line set) (range_with_len 0 (proc_count set.topo))

unfoldable pub wire_lines : Topology → List ℕ
wire_lines topo = flat_map (wire_line topo) (range_with_len 0 (length (wires_of topo)))

-- the whole text
unfoldable pub names_text : ProgramSet → List ℕ
names_text set = processor_lines set ++ wire_lines set.topo
