use Rattle.std.proofs.Common.{◌≡◌, ◌++◌, drop, map}
use Rattle.std.specs.Prelude.{string_bytes}
use Rattle.raw_text.specs.Lines.{written_lines}
use Rattle.raw_set_text.specs.Listing.{data_line}
use Rattle.raw_set_text.proofs.lister.push_cells.Given as goal

abbrev pub invariant-loop-cell : goal.invariant-loop-cell
invariant-loop-cell l = string_bytes l.text ++ written_lines (map (data_line l.topo.cols l.tile) (drop l.cell-index l.cells)) ≡ string_bytes l.fn.text ++ written_lines (map (data_line l.topo.cols l.tile) l.cells)
