use Rattle.std.proofs.Common.{◌≡◌, ℕ, ◌<◌, [], slice_index_or}
use Rattle.raw_steps.specs.Weaving.{steps_in}
use Rattle.raw_workers.proofs.rounds.has_steps.Given as goal

abbrev pub invariant-loop-log : goal.invariant-loop-log
invariant-loop-log l = (w : ℕ) → w < l.log-index → slice_index_or (steps_in l.logs) w [] ≡ []
