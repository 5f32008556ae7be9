use Rattle.std.proofs.Common.{◌+◌, ◌-◌, ◌*◌, vec_len, vec_capacity}
use Rattle.raw_steps.specs.Taking.{numbers}
use Rattle.raw_steps.specs.Left.{entries_of, count_in, CanBeWoven, IsWovenOn}
use Rattle.raw_steps.proofs.following.follow.Given as goal

abbrev pub invariant-awaited : goal.invariant-awaited
invariant-awaited l = record {
  can : CanBeWoven l.m (entries_of l.left) l.woven;
  on : IsWovenOn l.initial.m l.m (entries_of l.initial.left) (entries_of l.left) (numbers l.initial.woven.items) (numbers l.woven.items);
}

abbrev pub decreases-awaited : goal.decreases-awaited
decreases-awaited l = 2 * count_in (entries_of l.left) + (vec_capacity l.awaited - vec_len l.awaited)
