-- The laws of the crates below that are used here.
use Rattle.std.proofs.Common.{◌≡◌, ℕ, ◌+◌, ◌*◌, ◌<◌, List, length, Some}
use Rattle.raw_grid.specs.declared.parts.Net.{Net}
use Rattle.raw_grid.specs.declared.parts.Net.TheVariants.{One, Two}
use Rattle.raw_grid.specs.Ends.{tile_end}
use Rattle.raw_grid.specs.Topology.{Topology, IsTopology, tile_count, switch_number}
use Rattle.raw_grid.specs.Wires.{wires_of, output_wire, Joins}
use Rattle.raw_model.specs.Program.{ProgramSet, IsSet}
use Rattle.raw_model.specs.Start.{MachineState, start, Fits}
use Rattle.raw_model.specs.Outcomes.{outcome, IsOutcome}
use Rattle.raw_model.specs.Rest.{IsLawfulFrom, end_from}
use Rattle.raw_codegen.specs.Standing.{to_tile_wire, from_tile_wire}

pub record Laws : Type 0 where
  pub start_fits : (set : ProgramSet) → IsSet set → Fits set (start set)
  pub end_fits : (set : ProgramSet) (s : MachineState) (h : List ℕ) → IsSet set → Fits set s → IsLawfulFrom set s h → Fits set (end_from set s h)
  pub says : (set : ProgramSet) (s : MachineState) → IsSet set → IsOutcome set s (outcome set s)
  pub output_exists : (t : Topology) (p i w : ℕ) → output_wire t p i ≡ Some w → w < length (wires_of t)
  pub to_tile_one : (t : Topology) (tile : ℕ) → IsTopology t → tile < tile_count t → Joins t (4 * tile) (switch_number t tile) (tile_end One) tile (tile_end One)
  pub to_tile_two : (t : Topology) (tile : ℕ) → IsTopology t → tile < tile_count t → Joins t (4 * tile + 1) (switch_number t tile) (tile_end Two) tile (tile_end Two)
  pub from_tile_one : (t : Topology) (tile : ℕ) → IsTopology t → tile < tile_count t → Joins t (4 * tile + 2) tile (tile_end One) (switch_number t tile) (tile_end One)
  pub from_tile_two : (t : Topology) (tile : ℕ) → IsTopology t → tile < tile_count t → Joins t (4 * tile + 3) tile (tile_end Two) (switch_number t tile) (tile_end Two)

-- the wires between a tile and its switch, of each network
pub to_joins : Laws → (t : Topology) (tile : ℕ) → IsTopology t → tile < tile_count t → (net : Net) → Joins t (to_tile_wire net tile) (switch_number t tile) (tile_end net) tile (tile_end net)
to_joins laws t tile valid h One = laws.to_tile_one t tile valid h
to_joins laws t tile valid h Two = laws.to_tile_two t tile valid h

pub from_joins : Laws → (t : Topology) (tile : ℕ) → IsTopology t → tile < tile_count t → (net : Net) → Joins t (from_tile_wire net tile) tile (tile_end net) (switch_number t tile) (tile_end net)
from_joins laws t tile valid h One = laws.from_tile_one t tile valid h
from_joins laws t tile valid h Two = laws.from_tile_two t tile valid h
