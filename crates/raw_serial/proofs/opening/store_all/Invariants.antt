use Rattle.std.proofs.Common.{◌≡◌, drop}
use Rattle.raw_model.specs.Start.{with_words}
use Rattle.raw_serial.proofs.opening.store_all.Given as goal

abbrev pub invariant-loop-cell : goal.invariant-loop-cell
invariant-loop-cell l = with_words l.memory (drop l.cell-index l.cells) ≡ with_words l.initial.memory l.cells
