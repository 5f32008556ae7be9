use Rattle.std.proofs.Common.{◌≡◌, map, take}
use Rattle.raw_rows.specs.Given.{given_by}
use Rattle.raw_cut.proofs.ports.given_by.Given as goal

abbrev pub invariant-loop-row : goal.invariant-loop-row
invariant-loop-row l = l.given.items ≡ given_by l.stream l.port (map (λ row. row.items) (take l.row-index l.rows))
