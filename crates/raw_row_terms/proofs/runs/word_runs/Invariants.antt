use Rattle.std.proofs.Common.{◌≡◌, ◌++◌, drop}
use Rattle.raw_row_terms.specs.WordRuns.{runs_from}
use Rattle.raw_row_terms.proofs.runs.word_runs.Given as goal

abbrev pub invariant-loop-place : goal.invariant-loop-place
invariant-loop-place l = l.runs.items ++ runs_from l.stream l.place (drop l.place l.stream.nodes) ≡ runs_from l.stream 0 l.stream.nodes
