use Rattle.std.proofs.Common.{◌-◌, length}
use Rattle.raw_model.specs.Serial.{serial}
use Rattle.raw_debug.proofs.Seen.{Searches}
use Rattle.raw_debug.proofs.walk.Walk.go_until.Given as goal

abbrev pub invariant-steps : goal.invariant-steps
invariant-steps l = Searches l.fn.self.machine.set l.fn.self.moment l.proc.0 l.aim l.self

abbrev pub decreases-steps : goal.decreases-steps
decreases-steps l = length (serial l.fn.self.machine.set) - l.self.moment
