use Rattle.std.proofs.Common.{◌≡◌, ◌++◌, drop}
use Rattle.std.specs.Prelude.{string_bytes}
use Rattle.raw_text.specs.Lines.{written_lines}
use Rattle.std.specs.List.{flat_map}
use Rattle.raw_set_text.specs.Listing.{feed_lines, paired}
use Rattle.raw_set_text.proofs.lister.push_feeds.Given as goal

abbrev pub invariant-loop-i : goal.invariant-loop-i
invariant-loop-i l = string_bytes l.text ++ written_lines (flat_map feed_lines (paired (drop l.i l.topo.places) (drop l.i l.ports))) ≡ string_bytes l.fn.text ++ written_lines (flat_map feed_lines (paired l.topo.places l.ports))
