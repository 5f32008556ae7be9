use Rattle.std.proofs.Common.{◌≡◌, ◌-◌, not, length}
use Rattle.std.specs.Prelude.{◌==◌}
use Rattle.std.specs.List.{find, range_with_len}
use Rattle.raw_stream.specs.Kept.{due_count}
use Rattle.raw_row_terms.specs.RowClaims.{got_at, misgot}
use Rattle.raw_prove.specs.Units.{state_of}
use Rattle.raw_prove.proofs.machine.Machine.misgot.Given as goal

abbrev pub invariant-loop-port : goal.invariant-loop-port
invariant-loop-port l =
    find (λ q. not (length (got_at l.set (state_of l.self).state q) == due_count l.stream q)) (range_with_len l.port (length l.set.topo.places - l.port))
    ≡ misgot l.set l.stream (state_of l.self).state
