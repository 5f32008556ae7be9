use Rattle.std.proofs.Common.{◌≡◌, ◌++◌, drop}
use Rattle.std.specs.Prelude.{string_bytes}
use Rattle.raw_text.specs.Lines.{written_lines}
use Rattle.std.specs.List.{flat_map, enumerate_from}
use Rattle.raw_set_text.specs.Listing.{memory_lines}
use Rattle.raw_set_text.proofs.lister.push_memories.Given as goal

abbrev pub invariant-loop-tile : goal.invariant-loop-tile
invariant-loop-tile l = string_bytes l.text ++ written_lines (flat_map (memory_lines l.topo.cols) (enumerate_from l.tile (drop l.tile l.tiles))) ≡ string_bytes l.fn.text ++ written_lines (flat_map (memory_lines l.topo.cols) (enumerate_from 0 l.tiles))
