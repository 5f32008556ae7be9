use Rattle.std.proofs.Common.{sym, ◌∙◌}
use Rattle.raw_model.specs.Outcomes.{outcome}
use Rattle.raw_report.specs.Report.{report_of, outcome_lines, port_lines, tile_lines, show_lines, switch_lines, wire_lines, stall_lines}
use Rattle.raw_state_text.proofs.Sections.{same_text, seven_parts}
use Rattle.raw_report.proofs.Runs.{report_is}
use Rattle.raw_report.proofs.writing.write_report.Goals as goal

pub returns : goal.returns
unfolding report_of
returns g c = λ steps run.
    let m = c.args.m.now in
    let known = c.set-set.ensures in
    same_text _ _ _ _ _
    (sym (report_is m known.valid c.requires.quiet steps run known.reached
    ∙ seven_parts (outcome_lines m.set m.state (outcome m.set m.state)) (port_lines m.set m.state) (tile_lines m.set m.state)
    (show_lines m.set m.state) (switch_lines m.set m.state) (wire_lines m.set m.state) (stall_lines m.set m.missed)))
    c.put_parts.ensures
