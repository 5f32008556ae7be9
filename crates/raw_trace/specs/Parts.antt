-- What stands in the local state of a processor of any kind.
use Rattle.std.specs.Prelude.{ℕ, Bool, false, Option, Some, List, []}
use Rattle.raw_model.specs.Local.{Local, Tile, Switch}
use Rattle.raw_model.specs.Needs.{is_address_trap}

-- its registers; a port has none
abbrev pub regs_of : Option Local → List ℕ
regs_of (Some (Tile l)) = l.regs
regs_of (Some (Switch l)) = l.regs
regs_of _ = []

-- the number of its next instruction; 0 for a port
abbrev pub pc_of : Option Local → ℕ
pc_of (Some (Tile l)) = l.pc
pc_of (Some (Switch l)) = l.pc
pc_of _ = 0

-- a load or a store trapped it
abbrev pub is_faulted : Option Local → Bool
is_faulted (Some (Tile l)) = is_address_trap l.mark
is_faulted _ = false
