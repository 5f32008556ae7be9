use Rattle.std.proofs.Common.{◌≡◌, ◌++◌, ◌∙◌, map, ap}
use Rattle.std.specs.Prelude.{string_bytes}
use Rattle.raw_text.specs.Lines.{written_lines}
use Rattle.raw_model.specs.Program.{TileProgram}
use Rattle.raw_set_text.specs.Listing.{data_line, misses_lines}
use Rattle.raw_set_text.proofs.Listed.Text.{two_parts}
use Rattle.raw_set_text.proofs.lister.push_memory.Goals as goal

pub returns : goal.returns
returns c =
    let given = c.args.given.now in
    let line = data_line c.args.topo.now.cols c.args.tile in
    let lines = misses_lines c.args.topo.now.cols c.args.tile in
    let start = string_bytes c.args.text.now in
    let middle = string_bytes c.push_cells.new.text in
    let cells = c.deref.ensures.value ∙ ap (λ (t : TileProgram). t.cells) c.given.view_is in
    let misses = c.deref-2.ensures.value ∙ ap (λ (t : TileProgram). t.misses) c.given.view_is in
    let one : middle ≡ start ++ written_lines (map line given.cells) = c.in_ok-push_cells.ensures ∙ ap (λ xs. start ++ written_lines (map line xs)) cells in
    let two : string_bytes c.push_misses.new.text ≡ middle ++ written_lines (lines given.misses) = c.in_ok-push_misses.ensures ∙ ap (λ xs. middle ++ written_lines (lines xs)) misses in
    two_parts (map line given.cells) (lines given.misses) start middle (string_bytes c.push_misses.new.text) one two
