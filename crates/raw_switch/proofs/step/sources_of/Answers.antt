use Rattle.std.proofs.Common.{◌≡◌, ◌<◌, ◌≤◌, ℕ, None, subst, ⊎_elim, rules, arith}
use Rattle.std.specs.Prelude.{IfSome}
use Rattle.std.proofs.lemmas.Bool.{cases_lt}
use Rattle.std.proofs.lemmas.List.Edits.{fill_by_more}
use Rattle.raw_switch_isa.specs.Ends.{route_source, IsSource}
use Rattle.raw_switch.proofs.step.sources_of.Goals as goal

pub loop-output-preserved : goal.loop-output-preserved
loop-output-preserved c = record {
  ten = search rules;
  before = rw c.route_source.ensures.source
      (fill_by_more (route_source c.args.ins.now) c.loop-output.sources c.loop-output.output None (omega arith)
      c.loop-output.invariant.before);
  within = λ k below.
      ⊎_elim
      (λ (h : k < c.loop-output.output). c.loop-output.invariant.within k h)
      (λ (h : c.loop-output.output ≤ k).
      let is : c.loop-output.output ≡ k = omega (arith, below, h) in
      subst (λ (n : ℕ). IfSome (route_source c.args.ins.now n) IsSource) is
      (subst (λ s. IfSome s IsSource) c.route_source.ensures.source c.route_source.ensures.within))
      (cases_lt k c.loop-output.output);
}
