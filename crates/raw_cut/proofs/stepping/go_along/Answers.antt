use Rattle.std.proofs.Common.{ℕ, get_or, refl, ap, subst, ◌∙◌}
use Rattle.std.proofs.lemmas.List.{drop_all}
use Rattle.raw_rows.specs.Kernels.{along}
use Rattle.raw_prove.specs.declared.turn.Turn.{Turn}
use Rattle.raw_prove.specs.Units.{state_of}
use Rattle.raw_cut.specs.Kept.{IsTurnAt}
use Rattle.raw_cut.proofs.Along.{along_next}
use Rattle.raw_cut.proofs.stepping.go_along.Goals as goal

pub loop-p-preserved : goal.loop-p-preserved
loop-p-preserved c =
    let p : ℕ = get_or c.args.steps.now c.loop-p.p-index 0 in
    let step = subst (λ (turn : Turn). IsTurnAt c.args.set.now p c.loop-p.machine turn c.turn.new.machine) c.in-Fired.is c.in_ok-turn.ensures in
    record {
      goes = c.loop-p.invariant.goes ∙ along_next c.args.set.now (state_of c.loop-p.machine) (state_of c.turn.new.machine) c.args.steps.now c.loop-p.p-index p 0 c.loop-p-test.true refl step.may step.does;
      stands = step.kept 0 c.loop-p.invariant.stands;
      kept = λ spare is. step.kept spare (c.loop-p.invariant.kept spare is);
    }

pub returns : goal.returns
returns c = record {
  goes = λ _. c.loop-p.invariant.goes ∙ ap (along c.args.set.now (state_of c.loop-p.machine)) (drop_all c.loop-p.p-index c.args.steps.now c.loop-p-test.false);
  kept = λ _. c.loop-p.invariant.kept;
}
