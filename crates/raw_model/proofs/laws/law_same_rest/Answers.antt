use Rattle.raw_model.proofs.Orders.{at_most_as_often, same_locals, same_steps, prefix, same_rest, same_passed, same_touches, same_end, next_is_enabled}
use Rattle.raw_model.proofs.laws.law_same_rest.Goals as goal

pub returns : goal.returns
returns c = record {
  at_most_as_often = λ set s h g valid. at_most_as_often set valid s h g;
  same_locals = λ set s h g valid. same_locals set valid s h g;
  same_events = λ set s h g valid. same_steps set valid s h g;
  prefix = λ set s h g valid. prefix set valid s h g;
  same_rest = λ set s h g valid. same_rest set valid s h g;
  same_passed = λ set s h g valid. same_passed set valid s h g;
  same_touches = λ set s h g valid. same_touches set valid s h g;
  same_end = λ set s h g valid. same_end set valid s h g;
  next_is_enabled = λ set s h g front p rest valid. next_is_enabled set valid s h g front p rest;
}
