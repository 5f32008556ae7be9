use Rattle.std.proofs.Common.{◌≡◌, ◌++◌, length, take}
use Rattle.std.specs.List.{flat_map}
use Rattle.raw_image.specs.Image.{show_bytes, number}
use Rattle.raw_image.proofs.writer.push_shows.Given as goal

abbrev pub invariant-loop-show : goal.invariant-loop-show
invariant-loop-show l = l.out.items ≡ l.fn.out.items ++ (number (length l.shows) ++ flat_map show_bytes (take l.show-index l.shows))
