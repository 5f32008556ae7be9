-- A machine with terms that has done nothing yet.
use Rattle.std.specs.Prelude.{◌≡◌, ℕ, true, List, length}
use Rattle.raw_grid.specs.declared.parts.ProcKind.{ProcKind}
use Rattle.raw_grid.specs.declared.parts.ProcKind.TheVariants as proc
use Rattle.raw_model.specs.declared.limits.TheConstants.{MEMORY_WORDS}
use Rattle.raw_model.specs.Program.{ProgramSet, TileProgram, PortProgram}
use Rattle.raw_model.specs.Local.{Tile}
use Rattle.raw_flow.specs.declared.node.Node.{Node}
use Rattle.raw_term.specs.Terms.{is_within}
use Rattle.raw_term.specs.TermMachine.{first_term_memory, first_term_tile, term_start}
use Rattle.raw_prove.specs.declared.machine.Machine.{Machine}
use Rattle.raw_prove.specs.declared.unit.Unit.{Unit}
use Rattle.raw_prove.specs.declared.unit.Unit.TheVariants as a
use Rattle.raw_prove.specs.declared.unit.TileUnit.{TileUnit}
use Rattle.raw_prove.specs.Units.{state_of, MachineStands}
use Rattle.raw_serial.specs.Fresh.{IsFirstPort}

-- a tile of this program, and the table after the words in its memory
pub record IsOpenTile (before nodes : List Node) (program : TileProgram) (unit : TileUnit) : Type 0 where
  pub memory : first_term_memory before program.cells ≡ record { nodes = nodes; memory = unit.tile.memory }
  pub local : Tile unit.tile ≡ first_term_tile program (first_term_memory before program.cells)
  pub code : unit.code.items ≡ program.code
  pub many : length unit.tile.memory ≡ MEMORY_WORDS

-- a port of this kind and program
abbrev pub IsOpenPort : ProcKind → PortProgram → ℕ → Unit → Type 0
IsOpenPort proc.Source program first (a.Source unit) = (unit.first ≡ first) × IsFirstPort program unit.port
IsOpenPort proc.Source program first unit = ⊥
IsOpenPort kind program first (a.Sink port) = IsFirstPort program port
IsOpenPort kind program first unit = ⊥

-- a machine of this set at the start, whose table is within its limit
pub record IsOpened (set : ProgramSet) (m : Machine) : Type 0 where
  pub stands : MachineStands set m
  pub start : state_of m ≡ term_start set
  pub within : is_within (state_of m).nodes ≡ true
