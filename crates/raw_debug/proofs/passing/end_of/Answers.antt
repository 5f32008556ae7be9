use Rattle.std.proofs.Common.{arith}
use Rattle.raw_debug.proofs.Standing.{all_before}
use Rattle.raw_debug.proofs.passing.end_of.Goals as goal

pub returns-then-is_stopped : goal.returns-then-is_stopped
returns-then-is_stopped c =
    all_before c.args.machine.now.set c.args.machine.now.state c.args.p.0 c.args.end (c.is_stopped.ensures c.if-is_stopped.true) c.requires.behind

pub returns-else-is_stopped : goal.returns-else-is_stopped
returns-else-is_stopped c = λ q low high. absurd (omega (arith, low, high))
