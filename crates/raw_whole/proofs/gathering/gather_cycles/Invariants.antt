use Rattle.std.proofs.Common.{◌+◌, ◌≤◌}
use Rattle.raw_whole.specs.Kept.{AreTurnsKept, AreSendsKept}
use Rattle.raw_whole.proofs.Stepped.{IsStepped}
use Rattle.raw_whole.proofs.gathering.gather_cycles.Given as goal

abbrev pub invariant-cycles : goal.invariant-cycles
invariant-cycles l =
    (l.k ≤ l.fn.cycles + 1)
    × IsStepped l.fn.machine.set l.k l.machine l.account l.passed
    × AreTurnsKept l.fn.machine.set l.k l.whole.turns.items
    × AreSendsKept l.fn.machine.set l.k l.whole.sends.items
