use Rattle.std.proofs.Common.{◌++◌, ◌+◌, ◌∙◌, get_or, drop, map, refl, sym, ap}
use Rattle.std.specs.Prelude.{string_bytes}
use Rattle.raw_text.specs.Lines.{written_lines}
use Rattle.raw_model.specs.declared.program.Show.{Show}
use Rattle.raw_set_text.specs.Listing.{show_line}
use Rattle.raw_set_text.proofs.Listed.Text.{line_next, lines_done}
use Rattle.raw_set_text.proofs.lister.push_shows.Goals as goal

pub loop-show-preserved : goal.loop-show-preserved
loop-show-preserved c =
    let shows = c.args.shows.now in
    let k = c.loop-show.show-index in
    let none : Show = record { tile = 0; address = 0; words = 0 } in
    let f = show_line c.args.topo.now.cols in
    ap (λ t. t ++ written_lines (map f (drop (k + 1) shows))) c.in_ok-push_show.ensures
    ∙ line_next f shows k (get_or shows k none) none (string_bytes c.loop-show.text) c.loop-show-test.true refl
    ∙ c.loop-show.invariant

pub returns : goal.returns
returns c = sym (lines_done (show_line c.args.topo.now.cols) c.args.shows.now c.loop-show.show-index (string_bytes c.loop-show.text) c.loop-show-test.false) ∙ c.loop-show.invariant
