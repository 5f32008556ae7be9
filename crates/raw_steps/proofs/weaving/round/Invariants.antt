use Rattle.std.proofs.Common.{ℕ, ◌<◌, ◌≤◌, [], vec_len}
use Rattle.std.specs.Prelude.{slice_index_or}
use Rattle.raw_steps.specs.Taking.{numbers}
use Rattle.raw_steps.specs.Left.{entries_of, CanBeWoven, IsWovenOn, BeginsIdle}
use Rattle.raw_steps.proofs.weaving.round.Given as goal

abbrev pub invariant-loop-w : goal.invariant-loop-w
invariant-loop-w l = record {
  can : CanBeWoven l.m (entries_of l.left) l.woven;
  on : IsWovenOn l.initial.m l.m (entries_of l.initial.left) (entries_of l.left) (numbers l.initial.woven.items) (numbers l.woven.items);
  idle : vec_len l.woven ≤ vec_len l.initial.woven → (v : ℕ) → v < l.w → BeginsIdle l.m.set l.m.state (slice_index_or (entries_of l.left) v []);
}
