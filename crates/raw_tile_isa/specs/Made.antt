-- Instructions by the forms of their operands; a field that a form does not name is 0.
use Rattle.std.specs.Prelude.{ℕ, ◌+◌, ◌-◌, ◌%◌, ◌^◌}
use Rattle.raw_tile_isa.specs.declared.table.TileOp.{TileOp}
use Rattle.raw_tile_isa.specs.declared.table.TileOp.TheVariants.{Halt}
use Rattle.raw_tile_isa.specs.Instruction.{Instruction}

-- an operation on registers: rd, rs, rt
abbrev pub registers : TileOp → ℕ → ℕ → ℕ → Instruction
registers op rd rs rt = record { op = op; rs = rs; rt = rt; rd = rd; sh = 0; imm = 0; target = 0 }

-- a shift by an amount: rd, rt, the amount
abbrev pub shift : TileOp → ℕ → ℕ → ℕ → Instruction
shift op rd rt amount = record { op = op; rs = 0; rt = rt; rd = rd; sh = amount; imm = 0; target = 0 }

-- an operation with an immediate, a load or a store: rt, rs, the immediate or the offset in 16 bits
abbrev pub immediate : TileOp → ℕ → ℕ → ℕ → Instruction
immediate op rt rs imm = record { op = op; rs = rs; rt = rt; rd = 0; sh = 0; imm = imm; target = 0 }

-- the distance from the instruction behind a place to another place, in 16 bits
abbrev pub distance : ℕ → ℕ → ℕ
distance place there = (there + 2 ^ 16 - (place + 1)) % 2 ^ 16

-- a branch: rs, rt, the place of the branch and the one to which it goes
abbrev pub branch : TileOp → ℕ → ℕ → ℕ → ℕ → Instruction
branch op rs rt place there = immediate op rt rs (distance place there)

-- a jump to an instruction
abbrev pub jump : TileOp → ℕ → Instruction
jump op target = record { op = op; rs = 0; rt = 0; rd = 0; sh = 0; imm = 0; target = target }

abbrev pub halt : Instruction
halt = registers Halt 0 0 0
