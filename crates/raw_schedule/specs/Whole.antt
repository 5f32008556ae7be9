-- Sets for a flow: those with the grid, the ports and the words of its compiled set, whatever their programs are.
use Rattle.std.specs.Prelude.{◌≡◌, ℕ, List, [], ◌∷◌, length}
use Rattle.raw_model.specs.declared.limits.TheConstants.{DEFAULT_DEPTH}
use Rattle.raw_model.specs.Program.{ProgramSet, TileProgram, PortProgram}
use Rattle.raw_codegen.specs.declared.limits.TheConstants.{PARTS_LIMIT}
use Rattle.raw_flow.specs.Flows.{Dataflow}
use Rattle.raw_flow.specs.Compiled.{flow_topo}

-- the words of the source, and how many the sink takes
abbrev pub flow_ports : Dataflow → List ℕ → List PortProgram
flow_ports flow inputs = record { words = inputs; capacity = 0 } ∷ record { words = []; capacity = length flow.outs } ∷ []

-- the set for a flow with these programs
abbrev pub with_programs : Dataflow → List ℕ → List TileProgram → ProgramSet
with_programs flow inputs tiles = record {
  topo = flow_topo flow;
  limit = PARTS_LIMIT;
  depth = DEFAULT_DEPTH;
  ports = flow_ports flow inputs;
  tiles = tiles;
  shows = [];
}

-- a set with other programs
abbrev pub with_tiles : ProgramSet → List TileProgram → ProgramSet
with_tiles set tiles = record { topo = set.topo; limit = set.limit; depth = set.depth; ports = set.ports; tiles = tiles; shows = set.shows }

-- a set is one for a flow whose source has these words
abbrev pub IsSetFor : Dataflow → List ℕ → ProgramSet → Type 0
IsSetFor flow inputs set = set ≡ with_programs flow inputs set.tiles
