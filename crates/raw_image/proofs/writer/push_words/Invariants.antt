use Rattle.std.proofs.Common.{◌≡◌, ◌++◌, length, take}
use Rattle.std.specs.List.{flat_map}
use Rattle.raw_image.specs.Image.{number}
use Rattle.raw_image.proofs.writer.push_words.Given as goal

abbrev pub invariant-loop-word : goal.invariant-loop-word
invariant-loop-word l = l.out.items ≡ l.fn.out.items ++ (number (length l.words) ++ flat_map number (take l.word-index l.words))
