use Rattle.std.proofs.Common.{◌≡◌, ℕ, ◌<◌, length}
use Rattle.raw_network.specs.Network.{values_on}
use Rattle.raw_serial.proofs.wires.Wires.copy_from.Given as goal

abbrev pub invariant-loop-w : goal.invariant-loop-w
invariant-loop-w l = (length l.self ≡ length l.initial.self) × ((v : ℕ) → v < l.w → values_on l.self v ≡ values_on l.fn.other v)
