use Rattle.std.proofs.Common.{◌≡◌, ℕ, ◌<◌, false}
use Rattle.raw_model.specs.Rest.{enabled}
use Rattle.raw_serial.proofs.machine.Machine.quiet.Given as goal

abbrev pub invariant-loop-p : goal.invariant-loop-p
invariant-loop-p l = (q : ℕ) → q < l.p → enabled l.self.set l.self.state q ≡ false
