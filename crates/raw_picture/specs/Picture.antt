-- The picture of a state at rest, layer by layer.
use Rattle.std.specs.Prelude.{ℕ, Option, Some, None, List, [], ◌++◌, length, slice_get}
use Rattle.std.specs.List.{flat_map, range_with_len}
use Rattle.raw_grid.specs.declared.parts.PortPlace.{PortPlace}
use Rattle.raw_grid.specs.Topology.{Topology, tile_count, proc_count}
use Rattle.raw_grid.specs.Wires.{wires_of}
use Rattle.raw_model.specs.Program.{ProgramSet}
use Rattle.raw_model.specs.Start.{MachineState}
use Rattle.raw_model.specs.Rest.{end}
use Rattle.raw_picture.specs.declared.layers.Layer.{Layer}
use Rattle.raw_picture.specs.declared.layers.Layer.TheVariants.{Cells, Links, Lanes, Boxes, Ports, Wires, Waits}
use Rattle.raw_picture.specs.Frame.{frame_of}
use Rattle.raw_picture.specs.Opening.{front}
use Rattle.raw_picture.specs.Legend.{legend}
use Rattle.raw_picture.specs.Ground.{cell_ground, link_ground, lane_ground}
use Rattle.raw_picture.specs.Told.{path}
use Rattle.raw_picture.specs.Boxes.{boxes, port_box}
use Rattle.raw_picture.specs.Flows.{wire_drawn, wait_drawn}

-- what is drawn of a port, where there is one
abbrev pub of_port : (PortPlace → List ℕ) → Option PortPlace → List ℕ
of_port draw None = []
of_port draw (Some place) = draw place

-- a piece of a layer: for a tile, a port, a wire or a processor, by its number
unfoldable pub piece : ProgramSet → MachineState → Layer → ℕ → List ℕ
piece set s Cells t = cell_ground set.topo t
piece set s Links t = link_ground set.topo t
piece set s Lanes i = of_port lane_ground (slice_get set.topo.places i)
piece set s Boxes t = boxes set s t
piece set s Ports i = of_port (port_box set s i) (slice_get set.topo.places i)
piece set s Wires v = wire_drawn set s v
piece set s Waits p = wait_drawn set s p

-- how many pieces a layer has: one for each tile, port, wire or processor
abbrev pub size : Topology → Layer → ℕ
size topo Cells = tile_count topo
size topo Links = tile_count topo
size topo Lanes = length topo.places
size topo Boxes = tile_count topo
size topo Ports = length topo.places
size topo Wires = length (wires_of topo)
size topo Waits = proc_count topo

-- a layer: its pieces, by rising number
unfoldable pub layer_text : ProgramSet → MachineState → Layer → List ℕ
layer_text set s kind = flat_map (piece set s kind) (range_with_len 0 (size set.topo kind))

-- the ground: cells and channels, and over them the path of the waits that are told
unfoldable pub ground : ProgramSet → MachineState → List ℕ
ground set s = layer_text set s Cells ++ layer_text set s Links ++ layer_text set s Lanes ++ path set s

-- what stands on it
unfoldable pub figures : ProgramSet → MachineState → List ℕ
figures set s = layer_text set s Boxes ++ layer_text set s Ports ++ layer_text set s Wires ++ layer_text set s Waits

-- the picture of a state
unfoldable pub picture_of : ProgramSet → MachineState → List ℕ
picture_of set s = front set s ++ ground set s ++ figures set s ++ legend (frame_of set.topo)

-- the picture of a list of steps from the start: it reads nothing of the list but its end
unfoldable pub picture : ProgramSet → List ℕ → List ℕ
picture set steps = picture_of set (end set steps)
