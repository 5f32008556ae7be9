use Rattle.std.proofs.Common.{◌≡◌, ◌-◌, length, Some}
use Rattle.std.specs.Int.{w32}
use Rattle.raw_image.specs.Fields.{said_at, repeated}
use Rattle.raw_image.specs.Reading.{words_at}
use Rattle.raw_image.proofs.Loop.{listed}
use Rattle.raw_image.proofs.ports.words_at.Given as goal

abbrev pub invariant-loop : goal.invariant-loop
invariant-loop l = record {
  read : repeated (listed (λ before. said_at w32 Some)) (l.count - l.counter) l.words.items l.rest ≡ words_at l.count l.bytes;
  size : length l.words.items ≡ l.counter;
}
