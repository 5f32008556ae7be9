use Rattle.std.proofs.Common.{[]}
use Rattle.raw_steps.specs.Taking.{numbers}
use Rattle.raw_steps.specs.Weaving.{steps_in}
use Rattle.raw_steps.specs.Left.{entries_of, count_in, CanBeWoven, IsWovenOn}
use Rattle.raw_steps.proofs.weaving.weave.Given as goal

abbrev pub invariant-rounds : goal.invariant-rounds
invariant-rounds l = record {
  can : CanBeWoven l.start (entries_of l.left.items) l.woven;
  on : IsWovenOn l.initial.start l.start (steps_in l.logs) (entries_of l.left.items) [] (numbers l.woven.items);
}

abbrev pub decreases-rounds : goal.decreases-rounds
decreases-rounds l = count_in (entries_of l.left.items)
