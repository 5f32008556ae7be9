use Rattle.std.proofs.Common.{◌≡◌, ℕ, ◌<◌, false}
use Rattle.raw_model.specs.Rest.{enabled}
use Rattle.raw_prove.specs.Units.{state_of}
use Rattle.raw_cut.specs.Kept.{IsKept}
use Rattle.raw_cut.proofs.resting.is_quiet.Given as goal

abbrev pub invariant-loop-p : goal.invariant-loop-p
invariant-loop-p l = record {
  same : state_of l.machine ≡ state_of l.initial.machine;
  stands : IsKept l.set l.machine;
  none : (q : ℕ) → q < l.p → enabled l.set (state_of l.initial.machine).state q ≡ false;
}
