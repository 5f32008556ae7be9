-- How far a machine has come with a script.
use Rattle.std.specs.Prelude.{◌≡◌, ◌≢◌, ℕ, ◌+◌, ◌*◌, ◌<◌, ◌≤◌, true, Some, List, length, slice_get}
use Rattle.raw_tile_isa.specs.declared.limits.TheConstants.{MAX_TILE_CODE}
use Rattle.raw_grid.specs.declared.parts.Net.{Net}
use Rattle.raw_grid.specs.declared.parts.Net.TheVariants.{One, Two}
use Rattle.raw_grid.specs.Topology.{tile_count, switch_number}
use Rattle.raw_model.specs.Program.{ProgramSet, IsSet}
use Rattle.raw_model.specs.Local.{Local, Tile, Switch, TileLocal}
use Rattle.raw_model.specs.Machine.{is_stopped}
use Rattle.raw_model.specs.Start.{MachineState, Fits}
use Rattle.raw_model.specs.Rest.{IsQuiet}
use Rattle.raw_model.specs.Outcomes.{outcome}
use Rattle.raw_model.specs.Outcomes.Outcome.{Done}
use Rattle.raw_codegen.specs.Parts.{Part, tile_part, switch_part, script_programs}
use Rattle.raw_codegen.specs.Straight.{at_tile, at_switch, core_with}
use Rattle.raw_codegen.specs.Steps.{SameWires}

-- the number of the wire from a tile's switch to the tile, and that of the wire from the tile to its switch
abbrev pub to_tile_wire : Net → ℕ → ℕ
to_tile_wire One tile = 4 * tile
to_tile_wire Two tile = 4 * tile + 1

abbrev pub from_tile_wire : Net → ℕ → ℕ
from_tile_wire One tile = 4 * tile + 2
from_tile_wire Two tile = 4 * tile + 3

-- a set whose programs are those of a script, and whose limit no program of it comes to
pub record IsScript (set : ProgramSet) (all : List Part) : Type 0 where
  pub valid : IsSet set
  pub tiles : set.tiles ≡ script_programs (tile_count set.topo) all
  pub limit : MAX_TILE_CODE < set.limit

-- each tile and each switch has executed what the first parts give it, and these are the memories of the tiles
pub record PartsStand (set : ProgramSet) (parts : List Part) (memories : ℕ → List ℕ) (s : MachineState) : Type 0 where
  pub tiles : (t : ℕ) → t < tile_count set.topo →
      (regs : List ℕ) × (slice_get s.locals t ≡ Some (Tile (at_tile (length (tile_part t parts)) (core_with regs (memories t)))))
  pub switches : (t : ℕ) → t < tile_count set.topo →
      (regs : List ℕ) × (slice_get s.locals (switch_number set.topo t) ≡ Some (Switch (at_switch (length (switch_part t parts)) regs)))
  pub fits : Fits set s

-- the ports are as they were
pub record SamePorts (set : ProgramSet) (before after : MachineState) : Type 0 where
  pub at : (p : ℕ) → 2 * tile_count set.topo ≤ p → slice_get after.locals p ≡ slice_get before.locals p

-- the machine has come to the end of these parts, without a step of a port
pub record HasGone (set : ProgramSet) (parts : List Part) (memories : ℕ → List ℕ) (before after : MachineState) : Type 0 where
  pub stands : PartsStand set parts memories after
  pub ports : SamePorts set before after

-- the memories of all tiles but one are as they were
pub record SameBut (t : ℕ) (before after : ℕ → List ℕ) : Type 0 where
  pub at : (u : ℕ) → u ≢ t → after u ≡ before u

-- each port has put in all its words, or is full
pub record PortsAreStopped (set : ProgramSet) (s : MachineState) : Type 0 where
  pub at : (p : ℕ) (l : Local) → 2 * tile_count set.topo ≤ p → slice_get s.locals p ≡ Some l → is_stopped set p l ≡ true

-- all tiles and switches have halted: the machine is at rest, and done
pub record HasHalted (set : ProgramSet) (memories : ℕ → List ℕ) (before after : MachineState) : Type 0 where
  pub quiet : IsQuiet set after
  pub done : outcome set after ≡ Done
  pub tiles : (t : ℕ) → t < tile_count set.topo →
      (l : TileLocal) × (slice_get after.locals t ≡ Some (Tile l)) × (l.memory ≡ memories t)
  pub ports : SamePorts set before after
  pub wires : SameWires before.wires after.wires
