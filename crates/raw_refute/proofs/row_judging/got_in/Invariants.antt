use Rattle.std.proofs.Common.{◌≡◌, take}
use Rattle.std.specs.List.{flat_map}
use Rattle.raw_row_terms.specs.RowClaims.{got_at}
use Rattle.raw_refute.proofs.row_judging.got_in.Given as goal

abbrev pub invariant-loop-port : goal.invariant-loop-port
invariant-loop-port l = l.got.items ≡ flat_map (got_at l.machine.set l.machine.state) (take l.port-index l.order)
