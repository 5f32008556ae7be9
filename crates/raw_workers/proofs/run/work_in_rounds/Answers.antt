use Rattle.std.proofs.Common.{◌<◌, refl, ◌∙◌, subst, arith}
use Rattle.raw_model.specs.Bounds.{all_left}
use Rattle.raw_serial.proofs.Taking.{run_none_taken, run_then, run_leads}
use Rattle.raw_workers.proofs.run.work_in_rounds.Goals as goal

pub rounds-init : goal.rounds-init
rounds-init g c = record { set = refl; ran = run_none_taken c.args.machine; few = omega arith }

pub returns-then-not-fired-clause-ran : goal.returns-then-not-fired-clause-ran
returns-then-not-fired-clause-ran g c =
    run_then c.args.machine c.rounds.machine c.advance-next.result.0 c.rounds.invariant.ran c.advance-next.ensures.advanced.ran

pub returns-then-not-fired-clause-led : goal.returns-then-not-fired-clause-led
returns-then-not-fired-clause-led g c =
    run_leads c.args.machine c.advance-next.result.0
    (run_then c.args.machine c.rounds.machine c.advance-next.result.0 c.rounds.invariant.ran c.advance-next.ensures.advanced.ran)

pub rounds-preserved : goal.rounds-preserved
rounds-preserved g c = record {
  set = c.advance-next.ensures.advanced.set ∙ c.rounds.invariant.set;
  ran = run_then c.args.machine c.rounds.machine c.advance-next.result.0 c.rounds.invariant.ran c.advance-next.ensures.advanced.ran;
  few = omega (
    arith,
    c.rounds.invariant.few,
    subst (λ set. all_left set c.advance-next.result.0.state < all_left set c.rounds.machine.state) c.rounds.invariant.set (c.advance-next.ensures.advanced.less c.if-not-fired.false),
  );
}
