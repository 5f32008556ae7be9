use Rattle.std.proofs.Common.{◌≡◌, Option, ap, subst, ◌∙◌, arith}
use Rattle.raw_grid.specs.Topology.{proc_count}
use Rattle.raw_model.specs.Program.{ProgramSet}
use Rattle.raw_prove.specs.declared.running.End.{End}
use Rattle.raw_prove.specs.Runs.{IsCountedTurn}
use Rattle.raw_prove.proofs.Sweeping.{sweep_first, sweep_turn, sweep_breaks, sweep_whole, most_small}
use Rattle.raw_prove.proofs.machine.Machine.sweep.Goals as goal

pub loop-p-init : goal.loop-p-init
loop-p-init c =
    sweep_first c.args.set.now c.requires.valid c.law_runs.ensures.short c.args.self.now c.args.steps.now c.requires.reached c.requires.stands

pub take_turn-requires-clause-few : goal.take_turn-requires-clause-few
take_turn-requires-clause-few c = omega (arith, c.loop-p.invariant.few, most_small c.args.set.now c.requires.valid)

pub returns-in-Some : goal.returns-in-Some
returns-in-Some c =
    let all : c.procs-p-end.result ≡ proc_count c.args.set.now.topo = c.procs-p-end.ensures.value ∙ ap (λ (g : ProgramSet). proc_count g.topo) c.set.view_is in
    sweep_breaks c.args.set.now c.requires.valid c.law_runs.ensures.short c.args.self.now c.args.steps.now c.requires.reached
    c.loop-p.self c.take_turn.new.self c.loop-p.steps c.take_turn.new.steps c.loop-p.p c.loop-p.invariant (omega (arith, all)) c.in-Some.end
    (subst (λ (end : Option End). IsCountedTurn c.args.set.now c.loop-p.p c.loop-p.self c.loop-p.steps end c.take_turn.new.self c.take_turn.new.steps) c.in-Some.is c.in_ok-end.ensures)

pub loop-p-preserved : goal.loop-p-preserved
loop-p-preserved c =
    sweep_turn c.args.set.now c.requires.valid c.law_runs.ensures.short c.args.self.now c.args.steps.now c.requires.reached
    c.loop-p.self c.take_turn.new.self c.loop-p.steps c.take_turn.new.steps c.loop-p.p c.loop-p.invariant
    (subst (λ (end : Option End). IsCountedTurn c.args.set.now c.loop-p.p c.loop-p.self c.loop-p.steps end c.take_turn.new.self c.take_turn.new.steps) c.in_default.is c.in_ok-end.ensures)

pub returns : goal.returns
returns c =
    let all : c.procs-p-end.result ≡ proc_count c.args.set.now.topo = c.procs-p-end.ensures.value ∙ ap (λ (g : ProgramSet). proc_count g.topo) c.set.view_is in
    sweep_whole c.args.set.now c.requires.valid c.law_runs.ensures.short c.args.self.now c.args.steps.now c.requires.reached
    c.loop-p.self c.loop-p.steps c.loop-p.p (omega (arith, all)) c.loop-p.invariant
