use Rattle.std.proofs.Common.{◌≤◌, ◌-◌, length}
use Rattle.raw_whole.specs.Kept.{AreNoSends}
use Rattle.raw_whole.proofs.sends.no_sends.Given as goal

abbrev pub invariant-wires : goal.invariant-wires
invariant-wires l = AreNoSends (length l.all.items) l.all.items × (length l.all.items ≤ l.fn.wires)

abbrev pub decreases-wires : goal.decreases-wires
decreases-wires l = l.fn.wires - length l.all.items
