use Rattle.std.proofs.Common.{◌≡◌, ℕ, [], drop}
use Rattle.raw_prove.specs.Units.{state_of}
use Rattle.raw_rows.specs.Noted.{noted_at, along_noting}
use Rattle.raw_cut.specs.Kept.{IsKept, IsKeptWith}
use Rattle.raw_lengths.proofs.noting.go_noting.Given as goal

abbrev pub invariant-loop-p : goal.invariant-loop-p
invariant-loop-p l = record {
  goes : along_noting l.set (noted_at (state_of l.initial.machine) []) l.steps ≡ along_noting l.set (noted_at (state_of l.machine) l.terms.items) (drop l.p-index l.steps);
  stands : IsKept l.set l.machine;
  kept : (spare : ℕ) → IsKeptWith l.set spare l.initial.machine → IsKeptWith l.set spare l.machine;
}
