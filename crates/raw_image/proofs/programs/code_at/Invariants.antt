use Rattle.std.proofs.Common.{◌≡◌, ◌-◌, length}
use Rattle.std.specs.Int.{w32}
use Rattle.raw_tile_isa.specs.Instruction.{decode_of}
use Rattle.raw_image.specs.Fields.{said_at, repeated}
use Rattle.raw_image.specs.Reading.{code_at}
use Rattle.raw_image.proofs.Loop.{listed}
use Rattle.raw_image.proofs.programs.code_at.Given as goal

abbrev pub invariant-loop : goal.invariant-loop
invariant-loop l = record {
  read : repeated (listed (λ before. said_at w32 decode_of)) (l.count - l.counter) l.code.items l.rest ≡ code_at l.count l.bytes;
  size : length l.code.items ≡ l.counter;
}
