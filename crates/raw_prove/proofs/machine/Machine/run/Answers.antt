use Rattle.std.proofs.Common.{◌≡◌, Option, rules, subst}
use Rattle.raw_prove.specs.declared.running.End.{End}
use Rattle.raw_prove.specs.Runs.{IsWholeSweep, IsSweep}
use Rattle.raw_prove.proofs.Sweeping.{run_next, run_breaks, run_rests}
use Rattle.raw_prove.proofs.machine.Machine.run.Goals as goal

pub returns-in-Some : goal.returns-in-Some
returns-in-Some c =
    run_breaks c.args.set.now c.sweeps.self c.sweeps.steps c.sweeps.invariant.1 c.sweep.new.self c.in-Some.end
    (subst (λ (end : Option End). IsSweep c.args.set.now c.sweeps.self c.sweeps.steps end c.sweep.new.self c.sweep.new.steps) c.in-Some.is c.in_ok-end.ensures)

pub returns-then-steps-before : goal.returns-then-steps-before
returns-then-steps-before c =
    let same : c.sweep.new.steps ≡ c.sweeps.steps = search (rules, c.if-steps-before.true) in
    run_rests c.args.set.now c.sweeps.self c.sweeps.steps c.sweeps.invariant.1 c.sweep.new.self c.sweep.new.steps same
    (subst (λ (end : Option End). IsSweep c.args.set.now c.sweeps.self c.sweeps.steps end c.sweep.new.self c.sweep.new.steps) c.in_default.is c.in_ok-end.ensures)

pub sweeps-preserved : goal.sweeps-preserved
sweeps-preserved c =
    let whole : IsWholeSweep c.args.set.now c.sweeps.self c.sweeps.steps c.sweep.new.self c.sweep.new.steps =
    subst (λ (end : Option End). IsSweep c.args.set.now c.sweeps.self c.sweeps.steps end c.sweep.new.self c.sweep.new.steps) c.in_default.is c.in_ok-end.ensures in
    (whole.stands, run_next c.args.set.now c.sweeps.self c.sweeps.steps c.sweeps.invariant.1 c.sweep.new.self c.sweep.new.steps whole)
