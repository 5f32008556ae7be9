use Rattle.std.proofs.Common.{◌≡◌, map, take}
use Rattle.raw_row_terms.specs.WordRuns.{number_in}
use Rattle.raw_row_terms.proofs.runs.numbers_of.Given as goal

abbrev pub invariant-loop-run : goal.invariant-loop-run
invariant-loop-run l = l.numbers.items ≡ map (number_in l.row) (take l.run-index l.runs)
