use Rattle.std.proofs.Common.{◌≡◌, ◌++◌, length, take}
use Rattle.std.specs.List.{flat_map}
use Rattle.raw_image.specs.Image.{switch_bytes, number}
use Rattle.raw_image.proofs.writer.push_switch.Given as goal

abbrev pub invariant-loop-ins : goal.invariant-loop-ins
invariant-loop-ins l = l.out.items ≡ l.fn.out.items ++ (number (length l.code) ++ flat_map switch_bytes (take l.ins-index l.code))
