-- What a row wants of each kind of processor, beside its turn.
use Rattle.std.specs.Prelude.{◌≡◌, ℕ, ◌<◌, ◌≤◌, Some, List, length}
use Rattle.raw_tile_isa.specs.Instruction.{Instruction}
use Rattle.raw_switch_isa.specs.Instruction.{SwitchInstruction}
use Rattle.raw_grid.specs.Topology.{tile_count}
use Rattle.raw_model.specs.Program.{ProgramSet}
use Rattle.raw_model.specs.Local.{Local, Switch, TileLocal, SwitchLocal, PortLocal}
use Rattle.raw_model.specs.Machine.{tile_code, switch_code, port_program, capacity_of}
use Rattle.raw_model.specs.Start.{FitsTile, FitsSwitch}
use Rattle.raw_model.specs.SwitchTable.{next_instruction}

module _ (set : ProgramSet) (p : ℕ) where
  -- p is a tile with this code, in a state that fits it
  pub record IsTileAt (code : List Instruction) (state : TileLocal) : Type 0 where
    pub tile : p < tile_count set.topo
    pub code_is : code ≡ tile_code set p
    pub fits : FitsTile set.limit code state

  -- p is a switch with this code, in a state that fits it
  pub record IsSwitchAt (code : List SwitchInstruction) (state : SwitchLocal) : Type 0 where
    pub switch : tile_count set.topo ≤ p
    pub code_is : code ≡ switch_code set p
    pub fits : FitsSwitch set.limit code state

  -- p is a switch in this state, and this is its next instruction
  pub record IsSwitchStep (l : Local) (state : SwitchLocal) (ins : SwitchInstruction) : Type 0 where
    pub switch : tile_count set.topo ≤ p
    pub local_is : l ≡ Switch state
    pub next : next_instruction (switch_code set p) state ≡ Some ins

  -- p is a sink with memory for all values that it may take
  pub record IsSinkAt (state : PortLocal) (room : ℕ) : Type 0 where
    pub fits : length state.got ≡ state.done
    pub room_is : capacity_of (port_program set p) ≤ room
