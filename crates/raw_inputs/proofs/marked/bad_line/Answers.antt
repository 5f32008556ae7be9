use Rattle.std.proofs.Common.{◌≡◌, ◌+◌, ◌-◌, ◌<◌, ◌≤◌, Some, None, length, take, drop, ap, ◌∙◌, subst}
use Rattle.std.specs.Prelude.{MatchOption}
use Rattle.raw_text.specs.Text.{text_lines}
use Rattle.raw_model.specs.Program.{ProgramSet}
use Rattle.raw_lines.specs.Placing.{label_places}
use Rattle.raw_debug.specs.Commands.{bad_command}
use Rattle.raw_inputs.proofs.marked.bad_line.Goals as goal

pub returns : goal.returns
returns c =
    let lines = text_lines c.args.text.now in
    let set = c.args.set.now in
    let mark = c.args.mark in
    subst (λ labels. MatchOption c.bad_command.result (bad_command labels set (drop (mark + 1) lines) ≡ None)
    (λ line. (mark + 1 ≤ line) × (line < length lines) × (bad_command labels set (drop (mark + 1) lines) ≡ Some (line - (mark + 1)))))
    (c.in-Ok.ensures ∙ ap (λ (s : ProgramSet). label_places s.topo (take mark lines)) c.set.view_is) c.bad_command.ensures
