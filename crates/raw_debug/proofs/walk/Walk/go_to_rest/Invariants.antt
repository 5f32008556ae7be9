use Rattle.std.proofs.Common.{◌≡◌, ◌-◌, length}
use Rattle.raw_model.specs.Serial.{serial}
use Rattle.raw_debug.specs.Walking.{IsUnderWay}
use Rattle.raw_debug.proofs.walk.Walk.go_to_rest.Given as goal

abbrev pub invariant-steps : goal.invariant-steps
invariant-steps l = record {
  same : l.self.machine.set ≡ l.fn.self.machine.set;
  under_way : IsUnderWay l.self;
}

abbrev pub decreases-steps : goal.decreases-steps
decreases-steps l = length (serial l.fn.self.machine.set) - l.self.moment
