use Rattle.std.proofs.Common.{ℕ, ◌<◌, ◌+◌, [], map}
use Rattle.std.specs.Prelude.{slice_index_or}
use Rattle.raw_rows.specs.Kernels.{RestsSeeing, unknown}
use Rattle.raw_cut.specs.Cuts.{cut_of}
use Rattle.raw_cut.proofs.deciding.all_rest.Given as goal

abbrev pub invariant-loop-i : goal.invariant-loop-i
invariant-loop-i l =
    (j : ℕ) → j < l.i → RestsSeeing l.set l.stream l.proof.last_limit (unknown l.stream) (cut_of l.proof.cut) (slice_index_or (map (λ steps. steps.items) l.proof.endings.items) j []) l.proof.lacks.items (l.proof.cut.window + j)
