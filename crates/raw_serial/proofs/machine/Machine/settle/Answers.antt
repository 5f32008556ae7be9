use Rattle.std.proofs.Common.{subst}
use Rattle.raw_serial.specs.Leading.{IsRunFor}
use Rattle.raw_serial.proofs.Leading.{run_more}
use Rattle.raw_serial.proofs.machine.Machine.settle.Goals as goal

pub returns-then-next-left : goal.returns-then-next-left
returns-then-next-left c =
    subst (λ left. IsRunFor c.args.self.now c.round-next.new.self c.args.most left) c.if-next-left.true
    (run_more c.args.self.now c.rounds.self c.round-next.new.self c.args.most c.rounds.left c.round-next.result c.rounds.invariant c.round-next.ensures)

pub rounds-preserved : goal.rounds-preserved
rounds-preserved c =
    run_more c.args.self.now c.rounds.self c.round-next.new.self c.args.most c.rounds.left c.round-next.result c.rounds.invariant c.round-next.ensures
