use Rattle.std.proofs.Common.{true, sym, ap, arith}
use Rattle.raw_picture.specs.Told.{all_waits, waits_told}
use Rattle.raw_state_text.proofs.Sections.{one_more, failed, all_written, same_text}
use Rattle.raw_picture.proofs.Ends.{told_on, told_end, told_done}
use Rattle.raw_picture.proofs.told.put_waits.Goals as goal

pub returns-in_err-put_line-in-Some : goal.returns-in_err-put_line-in-Some
unfolding all_waits
returns-in_err-put_line-in-Some g c =
    let m = c.args.drawn.now.machine.now in
    let wait = c.in-Some.wait in
    let parts = told_on m.set m.state c.args.telling c.loop-step.first c.args.drawn.now.listed.count c.loop-step._step c.loop-step.p.0 wait.on.0 wait.wire.0
    c.loop-step-test.true (sym c.in-Some.ensures.wire) (sym c.in-Some.ensures.on) in
    same_text _ _ _ _ _ (ap (waits_told c.args.telling m.set m.state true) c.args.drawn.now.are_listed.same)
    (failed _ _ _ _ _ _ _ c.loop-step.invariant.begun parts _
    c.from_residual.result c.from_residual.ensures.0 (same_text _ _ _ _ _ c.wait_piece.ensures c.in_err-put_line-in-Some.ensures))

pub loop-step-preserved : goal.loop-step-preserved
loop-step-preserved g c =
    let m = c.args.drawn.now.machine.now in
    let wait = c.in-Some.wait in
    let parts = told_on m.set m.state c.args.telling c.loop-step.first c.args.drawn.now.listed.count c.loop-step._step c.loop-step.p.0 wait.on.0 wait.wire.0
    c.loop-step-test.true (sym c.in-Some.ensures.wire) (sym c.in-Some.ensures.on) in
    record {
      there = λ _. c.in-Some.ensures.on_there;
      begun = one_more _ _ _ _ _ _ _ c.loop-step.invariant.begun parts _ (same_text _ _ _ _ _ c.wait_piece.ensures c.in_ok-put_line-in-Some.ensures);
    }

pub returns-in-None : goal.returns-in-None
unfolding all_waits
returns-in-None g c =
    let m = c.args.drawn.now.machine.now in
    same_text _ _ _ _ _ (ap (waits_told c.args.telling m.set m.state true) c.args.drawn.now.are_listed.same)
    (all_written _ _ _ _ _ c.loop-step.invariant.begun
    (told_end m.set m.state c.args.telling c.loop-step.first c.args.drawn.now.listed.count c.loop-step._step c.loop-step.p.0 c.loop-step-test.true
    (sym c.in-None.ensures.wire) (sym c.in-None.ensures.on)))

pub returns : goal.returns
unfolding all_waits
returns g c =
    let m = c.args.drawn.now.machine.now in
    same_text _ _ _ _ _ (ap (waits_told c.args.telling m.set m.state true) c.args.drawn.now.are_listed.same)
    (all_written _ _ _ _ _ c.loop-step.invariant.begun
    (told_done m.set m.state c.args.telling c.loop-step.first c.args.drawn.now.listed.count c.loop-step._step c.loop-step.p.0 c.loop-step-test.false))

pub first_wait-requires : goal.first_wait-requires
first_wait-requires g c = c.loop-step.invariant.there (omega (arith, c.loop-step-test.true))

pub wait_piece-requires-clause-there : goal.wait_piece-requires-clause-there
wait_piece-requires-clause-there g c = c.loop-step.invariant.there (omega (arith, c.loop-step-test.true))
