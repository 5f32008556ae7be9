use Rattle.std.proofs.Common.{sym, ◌∙◌}
use Rattle.raw_depth.specs.Verdicts.{verdict}
use Rattle.raw_depths.specs.Text.{verdict_lines}
use Rattle.raw_state_text.proofs.Sections.{nothing_yet, one_more, failed, last_part, same_text}
use Rattle.raw_depths.proofs.Verdicts.{done_text, never_text, not_done_text}
use Rattle.raw_depths.proofs.writing.put_verdict.Goals as goal

pub returns-in-Some : goal.returns-in-Some
returns-in-Some g c set are =
    same_text _ _ _ _ _ (c.done_line.ensures ∙ done_text set c.args.found.now are c.in-Some.depth c.in-Some.is) c.put_line.ensures

pub returns-in_err-put_line-in-Some-deadlock : goal.returns-in_err-put_line-in-Some-deadlock
returns-in_err-put_line-in-Some-deadlock g c set are =
    let parts = never_text set c.args.found.now are c.in-Some-deadlock.deadlock c.in_default.is c.in-Some-deadlock.is in
    failed _ _ _ _ _ _ _ (nothing_yet _ (verdict_lines set (verdict set))) parts _
    c.from_residual.result c.from_residual.ensures.0 (same_text _ _ _ _ _ c.never_line.ensures c.in_err-put_line-in-Some-deadlock.ensures)

pub returns-in_ok-put_line-in-Some-deadlock : goal.returns-in_ok-put_line-in-Some-deadlock
returns-in_ok-put_line-in-Some-deadlock g c set are =
    let parts = never_text set c.args.found.now are c.in-Some-deadlock.deadlock c.in_default.is c.in-Some-deadlock.is in
    let begun = one_more _ _ _ _ _ _ _ (nothing_yet _ (verdict_lines set (verdict set))) parts _
    (same_text _ _ _ _ _ c.never_line.ensures c.in_ok-put_line-in-Some-deadlock.ensures) in
    last_part _ _ _ _ c.deref.result.now _ c.put_all.result begun (sym c.deref.ensures.value)
    (record { ok = c.put_all.ensures.ok; front = c.put_all.ensures.front; fault = c.put_all.ensures.fault; count = c.put_all.ensures.count })

pub returns-in-None : goal.returns-in-None
returns-in-None g c set are =
    same_text _ _ _ _ _ (c.not_done_line.ensures ∙ not_done_text set c.args.found.now are c.in_default.is c.in-None.is) c.put_line-in-None.ensures
