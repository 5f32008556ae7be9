use Rattle.std.proofs.Common.{◌≤◌, length, ◌<◌}
use Rattle.std.specs.Prelude.{All}
use Rattle.raw_grid.specs.Topology.{proc_count}
use Rattle.raw_serial.specs.Leading.{HasTaken}
use Rattle.raw_workers.proofs.Turning.{AreIdle}
use Rattle.raw_workers.proofs.turns.serial_turn.Given as goal

abbrev pub invariant-loop-p : goal.invariant-loop-p
invariant-loop-p l =
    HasTaken l.fn.machine l.machine l.steps.items
    × (length l.steps.items ≤ l.p)
    × All (λ p. p < proc_count l.fn.machine.set.topo) l.steps.items
    × AreIdle l.machine l.steps.items l.p
