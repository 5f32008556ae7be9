use Rattle.std.proofs.Common.{◌≡◌, ◌∙◌, ap, Bool, true, false, None, is_some, refl, rules, arith}
use Rattle.std.specs.Bool.{then_some}
use Rattle.std.proofs.lemmas.List.Edits.{fill_by_more}
use Rattle.raw_tests.proofs.switch.taken.Goals as goal

-- a value stands there exactly where the test holds
is_some-then_some : {A : Type 0} (b : Bool) (a : A) → is_some (then_some b a) ≡ b
is_some-then_some true a = refl
is_some-then_some false a = refl

pub loop-end-preserved : goal.loop-end-preserved
loop-end-preserved c = record {
  ten = search rules;
  before = rw (c.then_some.ensures, c.has_end.ensures.bit)
      (fill_by_more _ c.loop-end.given c.loop-end.end None (omega arith)
      c.loop-end.invariant.before);
}

pub returns : goal.returns
returns c = record {
  each = λ end below.
      ap is_some (c.loop-end.invariant.before end (omega arith)) ∙ is_some-then_some _ _
      ∙ c.inputs-named.ensures.bits end;
}
