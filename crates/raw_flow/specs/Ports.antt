-- Where the sources and sinks of a flow stand, and which of them has an input or an out.
use Rattle.std.specs.Prelude.{◌≡◌, ℕ, ◌+◌, ◌*◌, ◌<◌, ◌==◌, List, [], ◌∷◌, ◌++◌, length, slice_index, slice_index_or, All, if◌then◌else◌}
use Rattle.raw_grid.specs.declared.parts.PortKind.TheVariants.{Source, Sink}
use Rattle.raw_grid.specs.declared.parts.PortPlace.{PortPlace}
use Rattle.raw_grid.specs.Topology.{Topology, IsTopology, west_place}
use Rattle.raw_flow.specs.Flows.{Dataflow, inputs_in}

-- The places of the sources and of the sinks; for each input, by its number, that of its source, and for each out that of its sink. What is past the
-- end of these two lists has the first source, or the first sink.
pub record FlowPorts : Type 0 where
  pub sources : List PortPlace
  pub sinks : List PortPlace
  pub comes : List ℕ
  pub goes : List ℕ

-- a source and a sink at the west of tile 0, of all inputs and of all outs
abbrev pub source_place : PortPlace
source_place = west_place Source 0

abbrev pub sink_place : PortPlace
sink_place = west_place Sink 0

abbrev pub usual_ports : FlowPorts
usual_ports = record { sources = source_place ∷ []; sinks = sink_place ∷ []; comes = []; goes = [] }

-- where input k comes from, and where out i goes
abbrev pub source_of : FlowPorts → ℕ → PortPlace
source_of ports k = slice_index_or ports.sources (slice_index ports.comes k) source_place

abbrev pub sink_of : FlowPorts → ℕ → PortPlace
sink_of ports i = slice_index_or ports.sinks (slice_index ports.goes i) sink_place

-- those of a list that have port q, where these are the ports of all
abbrev pub picked : {X : Type 0} → ℕ → List ℕ → List X → List X
picked q [] xs = if q == 0 then xs else []
picked q (p ∷ ports) [] = []
picked q (p ∷ ports) (x ∷ xs) = if p == q then x ∷ picked q ports xs else picked q ports xs

-- the grid of a flow with its ports: sources by number, and then sinks
abbrev pub placed_topo : Dataflow → FlowPorts → Topology
placed_topo flow ports = record { cols = flow.cols; rows = flow.rows; places = ports.sources ++ ports.sinks }

-- the tile at a place
abbrev pub tile_at : Dataflow → PortPlace → ℕ
tile_at flow place = place.y * flow.cols + place.x

-- the ports stand at edges of the grid, each at one of its own, and each input and each out has one of them
pub record ArePorts (flow : Dataflow) (ports : FlowPorts) : Type 0 where
  pub topology : IsTopology (placed_topo flow ports)
  pub sources : All (λ (place : PortPlace). place.kind ≡ Source) ports.sources
  pub sinks : All (λ (place : PortPlace). place.kind ≡ Sink) ports.sinks
  pub comes : (k : ℕ) → k < inputs_in flow.nodes → slice_index ports.comes k < length ports.sources
  pub goes : (i : ℕ) → i < length flow.outs → slice_index ports.goes i < length ports.sinks
