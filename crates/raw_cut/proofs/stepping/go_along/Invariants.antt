use Rattle.std.proofs.Common.{◌≡◌, ℕ, drop}
use Rattle.raw_prove.specs.Units.{state_of}
use Rattle.raw_rows.specs.Kernels.{along}
use Rattle.raw_cut.specs.Kept.{IsKept, IsKeptWith}
use Rattle.raw_cut.proofs.stepping.go_along.Given as goal

abbrev pub invariant-loop-p : goal.invariant-loop-p
invariant-loop-p l = record {
  goes : along l.set (state_of l.initial.machine) l.steps ≡ along l.set (state_of l.machine) (drop l.p-index l.steps);
  stands : IsKept l.set l.machine;
  kept : (spare : ℕ) → IsKeptWith l.set spare l.initial.machine → IsKeptWith l.set spare l.machine;
}
