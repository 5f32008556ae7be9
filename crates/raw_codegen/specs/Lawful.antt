-- Parts that keep the rules of instructions.
use Rattle.std.specs.Prelude.{◌≡◌, true, List}
use Rattle.std.specs.List.{AllByRecursion}
use Rattle.raw_tile_isa.specs.Instruction.{IsTileIns}
use Rattle.raw_switch_isa.specs.Instruction.{IsSwitchIns}
use Rattle.raw_grid.specs.Topology.{Topology, switch_number}
use Rattle.raw_model.specs.Program.{has_wires}
use Rattle.raw_codegen.specs.Parts.{Part, ToTile, ToSwitch}

-- the instruction keeps the rules, and each end that one of a switch names has a wire
abbrev pub IsPart : Topology → Part → Type 0
IsPart topo (ToTile t ins) = IsTileIns ins
IsPart topo (ToSwitch t ins) = IsSwitchIns ins × (has_wires topo (switch_number topo t) ins ≡ true)

abbrev pub AreParts : Topology → List Part → Type 0
AreParts topo parts = AllByRecursion (IsPart topo) parts
