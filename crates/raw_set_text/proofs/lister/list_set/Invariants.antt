use Rattle.std.proofs.Common.{◌≡◌, ◌++◌, drop}
use Rattle.std.specs.List.{flat_map, enumerate_from}
use Rattle.raw_text.specs.Lines.{written_lines}
use Rattle.raw_set_text.specs.Listing.{program_lines, listing}
use Rattle.raw_set_text.proofs.lister.list_set.Given as goal

abbrev pub invariant-loop-tile : goal.invariant-loop-tile
invariant-loop-tile l = l.text.items ++ written_lines (flat_map (program_lines l.set.topo.cols) (enumerate_from l.tile (drop l.tile l.set.tiles))) ≡ listing l.set
