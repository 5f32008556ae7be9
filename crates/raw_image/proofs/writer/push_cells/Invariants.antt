use Rattle.std.proofs.Common.{◌≡◌, ◌++◌, length, take}
use Rattle.std.specs.List.{flat_map}
use Rattle.raw_image.specs.Image.{cell_bytes, number}
use Rattle.raw_image.proofs.writer.push_cells.Given as goal

abbrev pub invariant-loop-cell : goal.invariant-loop-cell
invariant-loop-cell l = l.out.items ≡ l.fn.out.items ++ (number (length l.cells) ++ flat_map cell_bytes (take l.cell-index l.cells))
