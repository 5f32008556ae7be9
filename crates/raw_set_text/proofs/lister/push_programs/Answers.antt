use Rattle.std.proofs.Common.{◌≡◌, ◌++◌, ◌∙◌, map, ap}
use Rattle.raw_text.specs.Lines.{written_lines}
use Rattle.raw_model.specs.Program.{TileProgram}
use Rattle.raw_tile_asm.specs.Listing.{listed_lines}
use Rattle.raw_switch_asm.specs.Listing.{line_text}
use Rattle.raw_set_text.specs.declared.word.Word.TheVariants.{Tile, Switch}
use Rattle.raw_set_text.specs.Listing.{section_lines}
use Rattle.raw_set_text.proofs.Listed.Text.{two_parts}
use Rattle.raw_set_text.proofs.lister.push_programs.Goals as goal

pub returns : goal.returns
returns c =
    let given = c.args.given.now in
    let tile_lines = section_lines Tile c.args.topo.now.cols c.args.tile in
    let switch_lines = section_lines Switch c.args.topo.now.cols c.args.tile in
    let start = c.args.text.now.items in
    let middle = c.push_code.new.text.items in
    let code = c.deref.ensures.value ∙ ap (λ (t : TileProgram). t.code) c.given.view_is in
    let switch = c.deref-2.ensures.value ∙ ap (λ (t : TileProgram). t.switch) c.given.view_is in
    let one : middle ≡ start ++ written_lines (tile_lines (listed_lines 0 given.code)) =
    c.in_ok-push_code.ensures ∙ ap (λ xs. start ++ written_lines (tile_lines (listed_lines 0 xs))) code in
    let two : c.push_switch_code.new.text.items ≡ middle ++ written_lines (switch_lines (map line_text given.switch)) =
    c.in_ok-push_switch_code.ensures ∙ ap (λ xs. middle ++ written_lines (switch_lines (map line_text xs))) switch in
    two_parts (tile_lines (listed_lines 0 given.code)) (switch_lines (map line_text given.switch)) start middle c.push_switch_code.new.text.items one two
