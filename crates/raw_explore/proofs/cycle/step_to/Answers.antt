use Rattle.std.proofs.Common.{◌≡◌, ◌≤◌, max, arith, refl, ◌∙◌, subst}
use Rattle.std.proofs.Math.Nat.{le-max_left, le-max_right, max-le}
use Rattle.raw_explore.specs.Engine.{IsAt}
use Rattle.raw_explore.proofs.cycle.step_to.Goals as goal

pub cycles-init : goal.cycles-init
cycles-init c = (refl, omega arith, le-max_left c.args.k c.args.to, c.requires)

pub cycles-preserved : goal.cycles-preserved
cycles-preserved c =
    let past = le-max_right c.args.k c.args.to in
    (c.step_cycle.ensures.set ∙ c.cycles.invariant.0, omega (arith, c.cycles.invariant.1), omega (arith, c.cycles-test.true, past), c.step_cycle.ensures.at)

pub returns-clause-at : goal.returns-clause-at
returns-clause-at c =
    let least : max c.args.k c.args.to ≤ c.cycles.cycle = max-le c.cycles.invariant.1 (omega (arith, c.cycles-test.false)) in
    let last : c.cycles.cycle ≡ max c.args.k c.args.to = omega (arith, least, c.cycles.invariant.2) in
    subst (IsAt c.cycles.machine) last c.cycles.invariant.3
