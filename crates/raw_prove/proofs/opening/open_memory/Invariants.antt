use Rattle.std.proofs.Common.{◌≡◌, ◌/◌, length, drop}
use Rattle.std.specs.Prelude.{replicate}
use Rattle.raw_model.specs.Program.{memory_size}
use Rattle.raw_term.specs.TermMachine.{with_cells}
use Rattle.raw_prove.proofs.opening.open_memory.Given as goal

abbrev pub invariant-loop-i : goal.invariant-loop-i
invariant-loop-i l =
    (with_cells (record { nodes = l.initial.table; memory = replicate (memory_size / 4) 0 }) l.cells
    ≡ with_cells (record { nodes = l.table; memory = l.memory.items }) (drop l.i l.cells))
    × (length l.memory.items ≡ 16384)
