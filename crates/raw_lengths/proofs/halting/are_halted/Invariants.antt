use Rattle.std.proofs.Common.{◌≡◌, ℕ, ◌<◌, false, Some}
use Rattle.std.specs.Prelude.{slice_get}
use Rattle.raw_model.specs.Outcomes.{is_unhalted}
use Rattle.raw_prove.specs.declared.unit.Unit.{Unit}
use Rattle.raw_prove.specs.Units.{local_of}
use Rattle.raw_lengths.proofs.halting.are_halted.Given as goal

abbrev pub invariant-loop-p : goal.invariant-loop-p
invariant-loop-p l = (k : ℕ) (y : Unit) → k < l.p → slice_get l.units k ≡ Some y → is_unhalted (local_of y) ≡ false
