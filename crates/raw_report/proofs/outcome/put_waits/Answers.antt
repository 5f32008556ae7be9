use Rattle.std.proofs.Common.{◌≡◌, Some, sym}
use Rattle.raw_model.specs.Waits.{waits_for}
use Rattle.raw_state_text.proofs.Sections.{one_more, failed, all_written, same_text}
use Rattle.raw_report.proofs.Ends.{waits_on, waits_end, waits_done}
use Rattle.raw_report.proofs.outcome.put_waits.Goals as goal

pub returns-in_err-put_line-in-Some : goal.returns-in_err-put_line-in-Some
returns-in_err-put_line-in-Some g c =
    let m = c.args.m.now in
    let p = c.loop-step.p.0 in
    let wait = c.in-Some.wait in
    let awaited : waits_for m.set m.state p ≡ Some wait.on.0 = sym c.in-Some.ensures.on in
    let parts = waits_on m.set m.state c.args.count c.loop-step._step p wait.on.0 c.loop-step-test.true awaited in
    failed _ _ _ _ _ _ _ c.loop-step.invariant.begun parts _
    c.from_residual.result c.from_residual.ensures.0 (same_text _ _ _ _ _ c.wait_line.ensures c.in_err-put_line-in-Some.ensures)

pub loop-step-preserved : goal.loop-step-preserved
loop-step-preserved g c =
    let m = c.args.m.now in
    let p = c.loop-step.p.0 in
    let wait = c.in-Some.wait in
    let awaited : waits_for m.set m.state p ≡ Some wait.on.0 = sym c.in-Some.ensures.on in
    let parts = waits_on m.set m.state c.args.count c.loop-step._step p wait.on.0 c.loop-step-test.true awaited in
    record {
      there = c.in-Some.ensures.on_there;
      begun = one_more _ _ _ _ _ _ _ c.loop-step.invariant.begun parts _ (same_text _ _ _ _ _ c.wait_line.ensures c.in_ok-put_line-in-Some.ensures);
    }

pub returns-in-None : goal.returns-in-None
returns-in-None g c =
    let m = c.args.m.now in
    all_written _ _ _ _ _ c.loop-step.invariant.begun
    (waits_end m.set m.state c.args.count c.loop-step._step c.loop-step.p.0 c.loop-step-test.true (sym c.in-None.ensures.wire))

pub returns : goal.returns
returns g c =
    let m = c.args.m.now in
    all_written _ _ _ _ _ c.loop-step.invariant.begun
    (waits_done m.set m.state c.args.count c.loop-step._step c.loop-step.p.0 c.loop-step-test.false)
