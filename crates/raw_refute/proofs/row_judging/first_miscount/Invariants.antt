use Rattle.std.proofs.Common.{◌≡◌, ◌-◌, not, length}
use Rattle.std.specs.Prelude.{◌==◌}
use Rattle.std.specs.List.{find, range_with_len}
use Rattle.raw_stream.specs.Kept.{due_count}
use Rattle.raw_row_terms.specs.RowClaims.{got_at}
use Rattle.raw_refute.specs.RowJudged.{first_miscount}
use Rattle.raw_refute.proofs.row_judging.first_miscount.Given as goal

abbrev pub invariant-loop-port : goal.invariant-loop-port
invariant-loop-port l =
    find (λ q. not (length (got_at l.machine.set l.machine.state q) == due_count l.stream q)) (range_with_len l.port (length l.machine.set.topo.places - l.port))
    ≡ first_miscount l.machine.set l.stream (got_at l.machine.set l.machine.state)
