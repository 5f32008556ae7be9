-- Programs that were given lawful instructions.
use Rattle.std.specs.Prelude.{◌≡◌, List}
use Rattle.raw_grid.specs.Topology.{Topology, tile_count}
use Rattle.raw_model.specs.Program.{TileProgram}
use Rattle.raw_codegen.specs.Parts.{Part, programs_of, script_programs}
use Rattle.raw_codegen.specs.Lawful.{AreParts}
use Rattle.raw_codegen.specs.Limits.{AreShort}

-- the programs of all tiles of a grid have been given parts that keep its rules
pub record AreGiven (topo : Topology) (tiles : List TileProgram) : Type 0 where
  pub parts : List Part
  pub lawful : AreParts topo parts
  pub given : tiles ≡ programs_of (tile_count topo) parts

-- they are whole, each with its 'halt', and within the limits of a set
pub record AreWhole (topo : Topology) (tiles : List TileProgram) : Type 0 where
  pub parts : List Part
  pub lawful : AreParts topo parts
  pub given : tiles ≡ script_programs (tile_count topo) parts
  pub short : AreShort tiles
