use Rattle.std.proofs.Common.{◌≡◌, ◌++◌, length, refl, sym, ap, ◌∙◌, arith}
use Rattle.raw_state_text.proofs.Sections.{nothing_yet, one_more, failed, last_part, all_written}
use Rattle.raw_path.specs.Text.{on_lines, from_lines, path_lines}
use Rattle.raw_path.proofs.Texts.{no_lines, some_lines, line_is}
use Rattle.raw_path.proofs.writing.put_path.Given.{Over}
use Rattle.raw_path.proofs.writing.put_path.Goals as goal
use Rattle.raw_path.proofs.writing.put_path.Goals.{After-path_line-line}

-- the first line, and the lines that come after it
parts : (g : Over) (c : After-path_line-line g) → path_lines (length c.args.told.now.turns.items) c.args.cycles c.args.told.now.stalled c.args.told.now.stretches.items
    ≡ c.path_line-line.result ++ (on_lines (length c.args.told.now.turns.items) c.args.told.now.stretches.items ++ from_lines c.args.told.now.stretches.items)
parts g c =
    let told = c.args.told.now in
    let ss = told.stretches.items in
    let line = line_is c.args.cycles told.stalled c.len.result told.values told.room ss c.path_line-line.result c.path_line-line.ensures (c.len.ensures ∙ told.stretches.ok.0) c.requires.told.values c.requires.told.room in
    some_lines (length told.turns.items) c.args.cycles told.stalled ss (λ e. absurd (omega (arith, c.if-cycles-eq0.false, e)))
    ∙ ap (λ first. first ++ (on_lines (length told.turns.items) ss ++ from_lines ss)) (sym line)

pub returns-then-cycles-eq0 : goal.returns-then-cycles-eq0
returns-then-cycles-eq0 g c =
    let told = c.args.told.now in
    all_written _ _ _ _ _ (nothing_yet _ (path_lines (length told.turns.items) c.args.cycles told.stalled told.stretches.items))
    (sym (no_lines (length told.turns.items) c.args.cycles told.stalled told.stretches.items c.if-cycles-eq0.true))

pub returns-in_err-put_line : goal.returns-in_err-put_line
returns-in_err-put_line g c =
    failed _ _ _ _ _ _ _ (nothing_yet _ _) (parts g (goal.at.returns-in_err-put_line g c).After-path_line-line) _ c.from_residual.result c.from_residual.ensures.0 c.in_err-put_line.ensures

pub returns-in_err-put_turns : goal.returns-in_err-put_turns
returns-in_err-put_turns g c =
    let begun = one_more _ _ _ _ _ _ _ (nothing_yet _ _) (parts g (goal.at.returns-in_err-put_turns g c).After-path_line-line) _ c.in_ok-put_line.ensures in
    failed _ _ _ _ _ _ _ begun refl _ c.from_residual-in_err-put_turns.result c.from_residual-in_err-put_turns.ensures.0 c.in_err-put_turns.ensures

pub returns : goal.returns
returns g c =
    let begun = one_more _ _ _ _ _ _ _ (nothing_yet _ _) (parts g (goal.at.returns g c).After-path_line-line) _ c.in_ok-put_line.ensures in
    last_part _ _ _ _ _ _ _ (one_more _ _ _ _ _ _ _ begun refl _ c.in_ok-put_turns.ensures) refl c.put_stretches.ensures
