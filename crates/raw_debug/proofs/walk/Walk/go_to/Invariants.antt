use Rattle.std.proofs.Common.{◌-◌, length}
use Rattle.raw_model.specs.Serial.{serial}
use Rattle.raw_debug.proofs.Walks.{GoesTo}
use Rattle.raw_debug.proofs.walk.Walk.go_to.Given as goal

abbrev pub invariant-steps : goal.invariant-steps
invariant-steps l = GoesTo l.fn.self.machine.set l.place.proc.0 l.place.steps l.self

abbrev pub decreases-steps : goal.decreases-steps
decreases-steps l = length (serial l.fn.self.machine.set) - l.self.moment
