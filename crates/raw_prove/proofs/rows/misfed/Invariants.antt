use Rattle.std.proofs.Common.{◌≡◌, ◌-◌, not, length}
use Rattle.std.specs.Prelude.{◌==◌}
use Rattle.std.specs.List.{find, range_with_len}
use Rattle.raw_row_terms.specs.RowClaims.{has_words, takes_in_all, misfed}
use Rattle.raw_prove.proofs.rows.misfed.Given as goal

abbrev pub invariant-loop-port : goal.invariant-loop-port
invariant-loop-port l =
    find (λ q. not (has_words l.set q == takes_in_all l.stream q)) (range_with_len l.port (length l.set.ports - l.port)) ≡ misfed l.set l.stream
