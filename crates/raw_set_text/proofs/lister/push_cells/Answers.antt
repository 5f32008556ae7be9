use Rattle.std.proofs.Common.{◌++◌, ◌+◌, ◌∙◌, get_or, drop, map, refl, sym, ap}
use Rattle.std.specs.Prelude.{string_bytes}
use Rattle.raw_text.specs.Lines.{written_lines}
use Rattle.raw_model.specs.declared.program.DataWord.{DataWord}
use Rattle.raw_set_text.specs.Listing.{data_line}
use Rattle.raw_set_text.proofs.Listed.Text.{line_next, lines_done}
use Rattle.raw_set_text.proofs.lister.push_cells.Goals as goal

pub loop-cell-preserved : goal.loop-cell-preserved
loop-cell-preserved c =
    let cells = c.args.cells.now in
    let k = c.loop-cell.cell-index in
    let none : DataWord = record { address = 0; word = 0 } in
    let f = data_line c.args.topo.now.cols c.args.tile in
    ap (λ t. t ++ written_lines (map f (drop (k + 1) cells))) c.in_ok-push_cell.ensures
    ∙ line_next f cells k (get_or cells k none) none (string_bytes c.loop-cell.text) c.loop-cell-test.true refl
    ∙ c.loop-cell.invariant

pub returns : goal.returns
returns c = sym (lines_done (data_line c.args.topo.now.cols c.args.tile) c.args.cells.now c.loop-cell.cell-index (string_bytes c.loop-cell.text) c.loop-cell-test.false) ∙ c.loop-cell.invariant
