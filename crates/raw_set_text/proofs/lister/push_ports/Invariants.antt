use Rattle.std.proofs.Common.{◌≡◌, ◌++◌, drop, map}
use Rattle.std.specs.Prelude.{string_bytes}
use Rattle.raw_text.specs.Lines.{written_lines}
use Rattle.raw_set_text.specs.Listing.{port_line, paired}
use Rattle.raw_set_text.proofs.lister.push_ports.Given as goal

abbrev pub invariant-loop-i : goal.invariant-loop-i
invariant-loop-i l = string_bytes l.text ++ written_lines (map port_line (paired (drop l.i l.topo.places) (drop l.i l.ports))) ≡ string_bytes l.fn.text ++ written_lines (map port_line (paired l.topo.places l.ports))
