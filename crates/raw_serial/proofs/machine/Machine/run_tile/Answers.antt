use Rattle.std.proofs.Common.{◌-◌, [], ◌∷◌, subst, arith}
use Rattle.std.specs.Prelude.{if◌then◌else◌}
use Rattle.raw_serial.specs.Leading.{HasTaken, IsRunFor}
use Rattle.raw_serial.proofs.Leading.{run_past, run_step, run_more}
use Rattle.raw_serial.proofs.machine.Machine.run_tile.Goals as goal

pub returns-then-last-eq0 : goal.returns-then-last-eq0
returns-then-last-eq0 c =
    subst (IsRunFor c.args.self.now c.take_turns_as-turns.new.self c.args.most) c.if-last-eq0.true
    (run_more c.args.self.now c.stalls.self c.take_turns_as-turns.new.self c.args.most c.stalls.left c.take_turns_as-turns.result.left c.stalls.invariant c.take_turns_as-turns.ensures)

pub returns-then-not-turns : goal.returns-then-not-turns
returns-then-not-turns c =
    run_more c.args.self.now c.stalls.self c.take_turns_as-turns.new.self c.args.most c.stalls.left c.take_turns_as-turns.result.left c.stalls.invariant c.take_turns_as-turns.ensures

pub returns-then-not-step : goal.returns-then-not-step
returns-then-not-step c =
    let last = c.take_turns_as-turns.result.left in
    let machine = c.take_turns_as-turns.new.self in
    run_more c.args.self.now machine c.step.new.self c.args.most last last
    (run_more c.args.self.now c.stalls.self machine c.args.most c.stalls.left last c.stalls.invariant c.take_turns_as-turns.ensures)
    (run_past machine c.step.new.self last
    (subst (λ fired. HasTaken machine c.step.new.self (if fired then c.args.p.0 ∷ [] else [])) c.if-not-step.true c.step.ensures.taken))

pub stalls-preserved : goal.stalls-preserved
stalls-preserved c =
    let last = c.take_turns_as-turns.result.left in
    let machine = c.take_turns_as-turns.new.self in
    run_more c.args.self.now machine c.step.new.self c.args.most last (last - 1)
    (run_more c.args.self.now c.stalls.self machine c.args.most c.stalls.left last c.stalls.invariant c.take_turns_as-turns.ensures)
    (run_step machine c.step.new.self c.args.p.0 last (last - 1) (omega (arith, c.if-last-eq0.false))
    (subst (λ fired. HasTaken machine c.step.new.self (if fired then c.args.p.0 ∷ [] else [])) c.if-not-step.false c.step.ensures.taken))
