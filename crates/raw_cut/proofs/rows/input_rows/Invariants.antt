use Rattle.std.proofs.Common.{◌≡◌, ◌+◌, ◌*◌, ◌-◌, ◌++◌, map}
use Rattle.raw_rows.specs.Kernels.{input_rows}
use Rattle.raw_cut.proofs.rows.input_rows.Given as goal

abbrev pub invariant-loop-r : goal.invariant-loop-r
invariant-loop-r l = record {
  rows : map (λ row. row.items) l.rows.items ++ input_rows l.next l.width (l.many - l._r) ≡ input_rows l.first l.width l.many;
  next : l.next ≡ l.first + l._r * l.width;
}
