use Rattle.std.proofs.Common.{◌≡◌, ◌≤◌, max}
use Rattle.raw_explore.specs.Engine.{IsAt}
use Rattle.raw_explore.proofs.cycle.step_to.Given as goal

abbrev pub invariant-cycles : goal.invariant-cycles
invariant-cycles l = (l.machine.set ≡ l.fn.machine.set) × (l.fn.k ≤ l.cycle) × (l.cycle ≤ max l.fn.k l.fn.to) × IsAt l.machine l.cycle
