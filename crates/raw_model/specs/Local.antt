-- The local state of each kind of processor.
use Rattle.std.specs.Prelude.{ℕ, List}
use Rattle.raw_model.specs.declared.marks.Mark.{Mark}

-- a tile: its 32 registers, the number of its next instruction, how many it has executed, its mark,
-- and the bytes of its memory
pub record TileLocal : Type 0 where
  pub regs : List ℕ
  pub pc : ℕ
  pub count : ℕ
  pub mark : Mark
  pub memory : List ℕ

-- a switch: its 4 registers, the number of its next instruction, how many it has executed, its mark
pub record SwitchLocal : Type 0 where
  pub regs : List ℕ
  pub pc : ℕ
  pub count : ℕ
  pub mark : Mark

-- a port: how many words it has put in or taken out, and those that a sink has taken out
pub record PortLocal : Type 0 where
  pub done : ℕ
  pub got : List ℕ

-- a processor
pub data Local : Type 0 where
  Tile : TileLocal → Local
  Switch : SwitchLocal → Local
  Source : PortLocal → Local
  Sink : PortLocal → Local

-- how many steps a processor has taken: the instructions that it has executed, or the words that it has put in or taken out
abbrev pub steps_of : Local → ℕ
steps_of (Tile l) = l.count
steps_of (Switch l) = l.count
steps_of (Source l) = l.done
steps_of (Sink l) = l.done
