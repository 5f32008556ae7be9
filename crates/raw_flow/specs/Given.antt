-- What is given to the programs while they are made, and which tiles have which values then.
use Rattle.std.specs.Prelude.{ℕ, ◌<◌, ◌≤◌, Bool, List, length}
use Rattle.raw_grid.specs.declared.limits.TheConstants.{MAX_TILES}
use Rattle.raw_model.specs.Program.{TileProgram}
use Rattle.raw_codegen.specs.Parts.{Part, Gives}
use Rattle.raw_flow.specs.declared.limits.TheConstants.{MAX_NODES}
use Rattle.raw_flow.specs.Flows.{Dataflow}
use Rattle.raw_flow.specs.Places.{Holding, AreMarks}
use Rattle.raw_flow.specs.Ports.{FlowPorts, ArePorts}
use Rattle.raw_flow.specs.Compiled.{tiles_in}

-- the programs of the tiles of a flow have been given these parts more, and the marks are those of these holdings
pub record AreGiven (flow : Dataflow) (parts : List Part) (held : List Holding) (old new : List TileProgram) (marks : List Bool) : Type 0 where
  pub gives : Gives (tiles_in flow) parts old new
  pub marked : AreMarks flow marks held

-- a node of a flow within the limits, whose ports stand at the edges of its grid
pub record NodeStands (flow : Dataflow) (ports : FlowPorts) (v : ℕ) : Type 0 where
  pub value : v < length flow.nodes
  pub few_nodes : length flow.nodes ≤ MAX_NODES
  pub few_tiles : tiles_in flow ≤ MAX_TILES
  pub ports_are : ArePorts flow ports
