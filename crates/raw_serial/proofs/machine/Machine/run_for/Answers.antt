use Rattle.std.proofs.Common.{◌-◌, subst, arith}
use Rattle.raw_serial.specs.Leading.{HasRunFor, IsRunFor}
use Rattle.raw_serial.proofs.Taking.{run_some, run_leads}
use Rattle.raw_serial.proofs.Leading.{run_more}
use Rattle.raw_serial.proofs.machine.Machine.run_for.Goals as goal
use Rattle.raw_serial.proofs.machine.Machine.run_for.Goals.{After-settle-left, After-sweep-next}

-- the machine ran on to where the marked processors have stepped, and to where each has stepped once
settled : (c : After-settle-left) → IsRunFor c.args.self.now c.settle-left.new.self c.args.most c.settle-left.result
settled c =
    run_more c.args.self.now c.sweeps.self c.settle-left.new.self c.args.most c.sweeps.left c.settle-left.result c.sweeps.invariant c.settle-left.ensures

swept : (c : After-sweep-next) → IsRunFor c.args.self.now c.sweep-next.new.self c.args.most c.sweep-next.result
swept c =
    run_more c.args.self.now c.settle-left.new.self c.sweep-next.new.self c.args.most c.settle-left.result c.sweep-next.result
    (run_more c.args.self.now c.sweeps.self c.settle-left.new.self c.args.most c.sweeps.left c.settle-left.result c.sweeps.invariant c.settle-left.ensures)
    c.sweep-next.ensures.run

pub returns-then-left-eq0-clause-led : goal.returns-then-left-eq0-clause-led
returns-then-left-eq0-clause-led c =
    run_leads c.args.self.now c.settle-left.new.self
    (run_some c.args.self.now c.settle-left.new.self _ (settled (goal.at.returns-then-left-eq0-clause-led c).After-settle-left).ran)

pub returns-then-left-eq0-clause-ran : goal.returns-then-left-eq0-clause-ran
returns-then-left-eq0-clause-ran c =
    subst (HasRunFor c.args.self.now c.settle-left.new.self) (omega (arith, c.if-left-eq0.true))
    (settled (goal.at.returns-then-left-eq0-clause-ran c).After-settle-left).ran

pub returns-then-left-eq0-clause-less : goal.returns-then-left-eq0-clause-less
returns-then-left-eq0-clause-less c = λ spent some.
    (settled (goal.at.returns-then-left-eq0-clause-less c).After-settle-left).less (omega (arith, c.if-left-eq0.true, some))

pub returns-then-next-left-clause-led : goal.returns-then-next-left-clause-led
returns-then-next-left-clause-led c =
    run_leads c.args.self.now c.sweep-next.new.self
    (run_some c.args.self.now c.sweep-next.new.self _ (swept (goal.at.returns-then-next-left-clause-led c).After-sweep-next).ran)

pub returns-then-next-left-clause-ran : goal.returns-then-next-left-clause-ran
returns-then-next-left-clause-ran c =
    subst (λ left. HasRunFor c.args.self.now c.sweep-next.new.self (c.args.most - left)) c.if-next-left.true
    (swept (goal.at.returns-then-next-left-clause-ran c).After-sweep-next).ran

pub sweeps-preserved : goal.sweeps-preserved
sweeps-preserved c = swept (goal.at.sweeps-preserved c).After-sweep-next
