use Rattle.std.proofs.Common.{◌≤◌, length, sym, arith}
use Rattle.raw_outcome.proofs.Passing.{first_is, none_is}
use Rattle.raw_outcome.proofs.resting.first.Goals as goal

pub returns-then-is_one : goal.returns-then-is_one
returns-then-is_one c = sym (first_is c.args.m.now.set c.args.test c.args.m.now.state.locals c.loop-p.p c.if-is_one.ensures c.loop-p.invariant)

pub returns : goal.returns
returns c =
    let few : length c.args.m.now.state.locals ≤ c.loop-p.p = omega (arith, c.procs-p-end.ensures.locals, c.loop-p-test.false) in
    sym (none_is c.args.m.now.set c.args.test c.args.m.now.state.locals c.loop-p.p few c.loop-p.invariant)
