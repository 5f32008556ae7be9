use Rattle.std.proofs.Common.{◌++◌, ◌∷◌, [], length, sym, ap, ◌∙◌, arith}
use Rattle.std.proofs.lemmas.Result.{err_from_is_err_and}
use Rattle.std.proofs.lemmas.List.{length-append}
use Rattle.raw_image.specs.Reading.{cell_at, cells_at, least_behind}
use Rattle.raw_image.proofs.Loop.{listed, goes_on, ends, one_read, one_fails, least_push}
use Rattle.raw_image.proofs.programs.cells_at.Goals as goal

pub returns-in_err-cell-clause-read : goal.returns-in_err-cell-clause-read
returns-in_err-cell-clause-read c =
    let p = err_from_is_err_and c.from_residual.result c.from_residual.ensures.1 in
    rw (p.1, p.2)
    (ends (listed (λ before. cell_at (least_behind before))) c.in_err-cell.field-0.0 c.args.count c.loop.counter c.loop.cells.items c.loop.rest.now (cells_at c.args.count c.args.bytes.now) c.loop-test.true
    (one_fails c.in_err-cell.field-0.0 (cell_at (least_behind c.loop.cells.items) c.loop.rest.now) c.loop.cells.items (rw (← c.loop.invariant.least) c.in_err-cell.ensures.read)) c.loop.invariant.read)

pub loop-preserved : goal.loop-preserved
loop-preserved c = record {
  read = rw c.in_ok-push.ensures.items
      (goes_on (listed (λ before. cell_at (least_behind before))) c.args.count c.loop.counter c.loop.cells.items c.loop.rest.now (c.loop.cells.items ++ c.in_ok-cell.cell ∷ []) c.in_ok-cell.after.now (cells_at c.args.count c.args.bytes.now) c.loop-test.true
      (one_read (cell_at (least_behind c.loop.cells.items) c.loop.rest.now) c.loop.cells.items c.in_ok-cell.cell c.in_ok-cell.after.now (rw (← c.loop.invariant.least) c.in_ok-cell.ensures.read)) c.loop.invariant.read);
  size = omega (arith, ap length c.in_ok-push.ensures.items, length-append c.loop.cells.items (c.in_ok-cell.cell ∷ []), c.loop.invariant.size);
  least = sym (ap least_behind c.in_ok-push.ensures.items ∙ least_push c.loop.cells.items c.in_ok-cell.cell);
}
