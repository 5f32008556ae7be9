use Rattle.std.proofs.Common.{◌≡◌, ◌+◌, ◌≤◌, drop}
use Rattle.raw_network.specs.Network.{count_of}
use Rattle.raw_serial.proofs.needs.times.Given as goal

abbrev pub invariant-loop-v : goal.invariant-loop-v
invariant-loop-v l = (l.n + count_of l.w (drop l.v-index l.wires) ≡ count_of l.w l.wires) × (l.n ≤ l.v-index)
