use Rattle.std.proofs.Common.{◌≡◌, drop}
use Rattle.std.specs.List.{list_any}
use Rattle.raw_picture.specs.Frame.{is_at}
use Rattle.raw_picture.proofs.frame.has_port.Given as goal

abbrev pub invariant-loop-i : goal.invariant-loop-i
invariant-loop-i l = list_any (is_at l.side) (drop l.i l.topo.places) ≡ list_any (is_at l.side) l.topo.places
