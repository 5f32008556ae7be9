use Rattle.std.proofs.Common.{refl, arith}
use Rattle.raw_serial.proofs.Leading.{quiet_is}
use Rattle.raw_serial.proofs.machine.Machine.quiet.Goals as goal

pub returns : goal.returns
returns c = (
  λ e. quiet_is c.args.self.now.set c.args.self.now.state c.procs-p-end.result c.procs-p-end.ensures.locals
      (λ q below. c.loop-p.invariant q (omega (arith, below, c.loop-p-test.false))),
  λ quiet. refl,
)
