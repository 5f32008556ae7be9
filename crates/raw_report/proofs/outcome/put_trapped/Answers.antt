use Rattle.std.proofs.Common.{sym, ap, ◌∙◌}
use Rattle.std.specs.Prelude.{slice_get}
use Rattle.raw_report.specs.Lines.{trapped_line}
use Rattle.raw_report.specs.Locals.{mark_at, trap_text}
use Rattle.raw_report.specs.Report.{outcome_lines}
use Rattle.raw_state_text.proofs.Sections.{same_text}
use Rattle.raw_report.proofs.Ends.{trap_at_is}
use Rattle.raw_report.proofs.outcome.put_trapped.Goals as goal

pub returns-in-Trapped : goal.returns-in-Trapped
unfolding outcome_lines
returns-in-Trapped g c =
    let m = c.args.m.now in
    let p = c.args.p.0 in
    same_text _ _ _ _ _
    (c.trapped_line.ensures
    ∙ ap (trapped_line p) (sym (trap_at_is (slice_get m.state.locals p) ∙ ap trap_text (ap mark_at c.processor-processor.ensures.local ∙ sym c.mark.ensures ∙ c.in-Trapped.is))))
    c.put_line.ensures
