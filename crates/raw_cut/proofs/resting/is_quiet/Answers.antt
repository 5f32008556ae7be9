use Rattle.std.proofs.Common.{◌≡◌, ap, subst, ◌∙◌, arith}
use Rattle.raw_grid.specs.Topology.{proc_count}
use Rattle.raw_model.specs.Program.{ProgramSet}
use Rattle.raw_prove.specs.declared.turn.Turn.{Turn}
use Rattle.raw_cut.specs.Kept.{IsTurnAt}
use Rattle.raw_cut.proofs.Quiet.{quiet_next, quiet_all}
use Rattle.raw_cut.proofs.resting.is_quiet.Goals as goal

pub loop-p-preserved : goal.loop-p-preserved
loop-p-preserved c =
    let idle = subst (λ (turn : Turn). IsTurnAt c.args.set.now c.loop-p.p c.loop-p.machine turn c.turn.new.machine) c.in-Idle.is c.in_ok-turn.ensures in
    record {
      same = idle.stays ∙ c.loop-p.invariant.same;
      stands = idle.kept 0 c.loop-p.invariant.stands;
      none = quiet_next c.args.set.now c.args.machine.now c.loop-p.machine c.turn.new.machine c.loop-p.p c.loop-p.invariant.same c.loop-p.invariant.none idle;
    }

pub returns : goal.returns
returns c =
    let all : c.procs-p-end.result ≡ proc_count c.args.set.now.topo = c.procs-p-end.ensures.value ∙ ap (λ (g : ProgramSet). proc_count g.topo) c.set.view_is in
    record {
      quiet = λ _. quiet_all c.args.set.now c.args.machine.now c.loop-p.p c.requires (omega (arith, all, c.loop-p-test.false)) c.loop-p.invariant.none;
      stays = λ _. c.loop-p.invariant.same;
      kept = λ _. c.loop-p.invariant.stands;
    }
