use Rattle.std.proofs.Common.{◌≡◌, ℕ, take}
use Rattle.std.specs.Option.{option_or}
use Rattle.raw_set_text.specs.Memory.{word_of, word_from, IsInside}
use Rattle.raw_set_text.proofs.tile_memory.write_words.Given as goal

abbrev pub invariant-loop-i : goal.invariant-loop-i
invariant-loop-i l = record {
  words : (k : ℕ) → word_of l.memory k ≡ option_or (word_from l.first (take l.i l.words) k) (word_of l.initial.memory k);
  inside : IsInside l.initial.memory → IsInside l.memory;
}
