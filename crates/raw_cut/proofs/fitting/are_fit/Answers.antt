use Rattle.std.proofs.Common.{length, ap, subst, arith}
use Rattle.raw_model.specs.Program.{ProgramSet, AreOfKinds}
use Rattle.raw_cut.proofs.fitting.are_fit.Goals as goal

pub returns : goal.returns
returns c = λ e. record {
  some_steps = omega (arith, c.if-limit-eq0.false);
  few_steps = omega (arith, c.if-limit-gt-MAX_STEPS.false);
  each = let long = c.set.inside.ports.ok.0 in
      let same = ap (λ (g : ProgramSet). length g.ports) c.set.view_is in
      omega (arith, long, same, c.if-ports-len.false, c.len.ensures);
  programs = c.are_of_kinds.ensures.programs c.if-not-are_of_kinds.false;
  kinds = subst (λ (g : ProgramSet). AreOfKinds g.topo.places c.args.ports.now) c.set.view_is (c.are_of_kinds.ensures.kinds c.if-not-are_of_kinds.false);
  words = c.has_few_words.ensures c.if-not-has_few_words.false;
  capacities = c.has_little_room.ensures e;
}
