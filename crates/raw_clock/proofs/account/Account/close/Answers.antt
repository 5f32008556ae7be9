use Rattle.std.proofs.Common.{arith}
use Rattle.raw_clock.proofs.Accounting.{all_counted}
use Rattle.raw_clock.proofs.account.Account.close.Goals as goal

pub returns : goal.returns
returns c =
    all_counted c.args.set.now c.requires.valid c.args.cycles c.procs.self c.procs.invariant.1
    (λ q below. c.procs.invariant.2 q (omega (arith, below, c.procs-test.false, c.procs.invariant.0)))
