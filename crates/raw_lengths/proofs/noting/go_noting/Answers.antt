use Rattle.std.proofs.Common.{ℕ, get_or, refl, ap, ◌∙◌}
use Rattle.std.proofs.lemmas.List.{drop_all}
use Rattle.raw_rows.specs.Noted.{noted_at, along_noting}
use Rattle.raw_prove.specs.Units.{state_of}
use Rattle.raw_lengths.proofs.Counting.{noting_next}
use Rattle.raw_lengths.proofs.noting.go_noting.Goals as goal

pub loop-p-preserved : goal.loop-p-preserved
loop-p-preserved c =
    let p : ℕ = get_or c.args.steps.now c.loop-p.p-index 0 in
    record {
      goes = c.loop-p.invariant.goes
          ∙ noting_next c.args.set.now (noted_at (state_of c.loop-p.machine) c.loop-p.terms.items) (noted_at (state_of c.step.new.machine) c.step.new.terms.items) c.args.steps.now c.loop-p.p-index p 0 c.loop-p-test.true refl
          (c.in_ok-step.ensures.may c.if-not-branch.false) (c.in_ok-step.ensures.does c.if-not-branch.false);
      stands = c.in_ok-step.ensures.kept c.if-not-branch.false 0 c.loop-p.invariant.stands;
      kept = λ spare is. c.in_ok-step.ensures.kept c.if-not-branch.false spare (c.loop-p.invariant.kept spare is);
    }

pub returns : goal.returns
returns c = record {
  goes = c.loop-p.invariant.goes ∙ ap (along_noting c.args.set.now (noted_at (state_of c.loop-p.machine) c.loop-p.terms.items)) (drop_all c.loop-p.p-index c.args.steps.now c.loop-p-test.false);
  kept = c.loop-p.invariant.kept;
}
