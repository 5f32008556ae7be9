use Rattle.std.proofs.Common.{◌≡◌, ◌+◌, false}
use Rattle.std.specs.Option.{is_some}
use Rattle.std.specs.List.{list_any, range_with_len}
use Rattle.raw_set_text.specs.Memory.{word_of}
use Rattle.raw_set_text.proofs.tile_memory.is_given.Given as goal

abbrev pub invariant-loop-i : goal.invariant-loop-i
invariant-loop-i l = list_any (λ i. is_some (word_of l.memory (l.first + i))) (range_with_len 0 l.i) ≡ false
