use Rattle.std.proofs.Common.{◌≡◌, ℕ, ◌<◌, false}
use Rattle.raw_model.specs.Rest.{enabled}
use Rattle.raw_serial.specs.Leading.{IsRunFor}
use Rattle.raw_serial.proofs.machine.Machine.sweep.Given as goal

abbrev pub invariant-loop-p : goal.invariant-loop-p
invariant-loop-p l =
    IsRunFor l.initial.self l.self l.most l.left
    × (0 < l.most → l.left ≡ l.most → (q : ℕ) → q < l.p → enabled l.initial.self.set l.initial.self.state q ≡ false)
