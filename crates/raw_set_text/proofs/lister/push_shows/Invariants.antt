use Rattle.std.proofs.Common.{◌≡◌, ◌++◌, drop, map}
use Rattle.std.specs.Prelude.{string_bytes}
use Rattle.raw_text.specs.Lines.{written_lines}
use Rattle.raw_set_text.specs.Listing.{show_line}
use Rattle.raw_set_text.proofs.lister.push_shows.Given as goal

abbrev pub invariant-loop-show : goal.invariant-loop-show
invariant-loop-show l = string_bytes l.text ++ written_lines (map (show_line l.topo.cols) (drop l.show-index l.shows)) ≡ string_bytes l.fn.text ++ written_lines (map (show_line l.topo.cols) l.shows)
