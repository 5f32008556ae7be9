use Rattle.std.proofs.Common.{◌≡◌, ◌++◌, take}
use Rattle.raw_steps.specs.Taking.{numbers}
use Rattle.raw_workers.proofs.record.Kept.keep_turn.Given as goal

abbrev pub invariant-loop-i : goal.invariant-loop-i
invariant-loop-i l =
    (l.self.machine ≡ l.fn.self.machine)
    × (numbers l.self.steps.items ≡ numbers l.fn.self.steps.items ++ take l.i l.turn.items)
