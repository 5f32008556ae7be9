-- The serial order of steps, and lists of steps that are joined from those of several workers.
use Rattle.std.specs.Prelude.{◌≡◌, ℕ, zero, suc, ◌<◌, ◌%◌, List, [], ◌∷◌, ◌++◌, length, slice_index_or, if◌then◌else◌}
use Rattle.std.specs.List.{range_with_len}
use Rattle.raw_network.specs.Laws.{of_worker}
use Rattle.raw_grid.specs.Topology.{proc_count}
use Rattle.raw_model.specs.Program.{ProgramSet}
use Rattle.raw_model.specs.Start.{MachineState, start}
use Rattle.raw_model.specs.Rest.{enabled, step, end_from}
use Rattle.raw_model.specs.Bounds.{most_steps}

-- the steps of these processors: each that is enabled when its turn comes steps once
abbrev pub sweep_over : ProgramSet → MachineState → List ℕ → List ℕ
sweep_over set s [] = []
sweep_over set s (p ∷ ps) = if enabled set s p then p ∷ sweep_over set (step set s p) ps else sweep_over set s ps

-- one sweep over all processors, by rising number
abbrev pub sweep : ProgramSet → MachineState → List ℕ
sweep set s = sweep_over set s (range_with_len 0 (proc_count set.topo))

-- so many sweeps, one after another
abbrev pub sweeps : ProgramSet → ℕ → MachineState → List ℕ
sweeps set zero s = []
sweeps set (suc n) s = sweep set s ++ sweeps set n (end_from set s (sweep set s))

-- The serial order: sweeps from the start until no processor is enabled. Until then each sweep takes a step, so
-- that as many sweeps as a list has steps at most are enough; those after the rest take none.
unfoldable pub serial : ProgramSet → List ℕ
serial set = sweeps set (most_steps set) (start set)

-- The steps are joined from these logs, one a worker, and at least one: of the processors whose number, modulo the
-- number of workers, is w, the steps are those of log w, in its order.
pub record IsJoined (steps : List ℕ) (logs : List (List ℕ)) : Type 0 where
  pub some_log : 0 < length logs
  pub each : (w : ℕ) → w < length logs → of_worker (λ p. p % length logs) w steps ≡ slice_index_or logs w []
