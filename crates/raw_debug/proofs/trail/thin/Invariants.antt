use Rattle.std.proofs.Common.{◌≡◌, length}
use Rattle.raw_model.specs.Program.{ProgramSet}
use Rattle.raw_debug.specs.Walking.{AreOn}
use Rattle.raw_debug.proofs.trail.thin.Given as goal

abbrev pub invariant-loop-i : goal.invariant-loop-i
invariant-loop-i l = record {
  many : length l.copies.items ≡ length l.initial.copies.items;
  all : (set : ProgramSet) → AreOn set l.initial.copies.items → AreOn set l.copies.items;
}
