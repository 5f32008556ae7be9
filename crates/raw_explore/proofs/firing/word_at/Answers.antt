use Rattle.std.proofs.Common.{ℕ, ◌+◌, ◌-◌, ◌%◌, ◌<◌, ◌≤◌, ◌^◌, arith}
use Rattle.raw_model.specs.Start.{memory_size}
use Rattle.raw_explore.proofs.firing.word_at.Goals as goal

-- the word in which a byte of the memory is lies in the memory
word_inside : (address : ℕ) → address < 2 ^ 16 → address - address % 4 + 4 ≤ memory_size
unfolding memory_size
word_inside address below = omega arith

pub word_at-requires : goal.word_at-requires
word_at-requires c = word_inside c.args.address c.requires
