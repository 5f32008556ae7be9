use Rattle.std.proofs.Common.{◌≡◌, ◌++◌}
use Rattle.std.specs.List.{flat_map, range_with_len}
use Rattle.raw_lines.specs.LabelsOf.{lines_in}
use Rattle.raw_lines.specs.Lines.{program_text}
use Rattle.raw_lines.proofs.listing.push_programs.Given as goal

abbrev pub invariant-loop-tile : goal.invariant-loop-tile
invariant-loop-tile l = l.bytes.items ≡ l.fn.bytes.items ++ flat_map (program_text l.kind l.labels.topo.now (lines_in l.labels) l.labels.sections.items) (range_with_len 0 l.tile)
