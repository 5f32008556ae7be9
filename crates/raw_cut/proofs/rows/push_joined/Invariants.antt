use Rattle.std.proofs.Common.{◌≡◌, ◌++◌, map, take}
use Rattle.raw_rows.specs.Kernels.{joined}
use Rattle.raw_cut.proofs.rows.push_joined.Given as goal

abbrev pub invariant-loop-row : goal.invariant-loop-row
invariant-loop-row l = l.all.items ≡ l.initial.all.items ++ joined (map (λ row. row.items) (take l.row-index l.rows))
