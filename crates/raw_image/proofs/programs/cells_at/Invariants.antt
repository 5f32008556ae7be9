use Rattle.std.proofs.Common.{◌≡◌, ◌-◌, length}
use Rattle.raw_image.specs.Fields.{repeated}
use Rattle.raw_image.specs.Reading.{cell_at, cells_at, least_behind}
use Rattle.raw_image.proofs.Loop.{listed}
use Rattle.raw_image.proofs.programs.cells_at.Given as goal

abbrev pub invariant-loop : goal.invariant-loop
invariant-loop l = record {
  read : repeated (listed (λ before. cell_at (least_behind before))) (l.count - l.counter) l.cells.items l.rest ≡ cells_at l.count l.bytes;
  size : length l.cells.items ≡ l.counter;
  least : l.least ≡ least_behind l.cells.items;
}
