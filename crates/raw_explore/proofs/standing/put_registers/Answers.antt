use Rattle.std.proofs.Common.{length, refl, arith}
use Rattle.raw_state_text.proofs.Sections.{failed_numbered, more_numbered, all_numbered}
use Rattle.raw_explore.proofs.standing.put_registers.Goals as goal

pub returns-in_err-put_register : goal.returns-in_err-put_register
returns-in_err-put_register g c = failed_numbered _ (length c.args.regs.now) _ c.loop-r.invariant.1 (omega (arith, c.loop-r-test.true, c.loop-r.invariant.0)) (c.in_err-put_register.ensures c.args.regs.now refl) c.from_residual.ensures.0

pub loop-r-preserved : goal.loop-r-preserved
loop-r-preserved g c = (c.loop-r.invariant.0, more_numbered _ (length c.args.regs.now) _ c.loop-r.invariant.1 (omega (arith, c.loop-r-test.true, c.loop-r.invariant.0)) (c.in_ok-put_register.ensures c.args.regs.now refl))

pub returns : goal.returns
returns g c = all_numbered _ (length c.args.regs.now) _ c.loop-r.invariant.1 (omega (arith, c.loop-r-test.false, c.loop-r.invariant.0))
