use Rattle.std.proofs.Common.{arith}
use Rattle.raw_run_commands.proofs.Summing.{all_counts}
use Rattle.raw_run_commands.proofs.generated.all_steps.Goals as goal

pub returns : goal.returns
returns c = all_counts c.args.m.now.state c.loop-p.p c.loop-p.steps (omega (arith, c.loop-p.auto.p-end, c.loop-p-test.false, c.procs-p-end.ensures.locals)) c.loop-p.invariant.0
