use Rattle.std.proofs.Common.{◌≡◌, map, take}
use Rattle.raw_serial.proofs.wires.Wires.with.Given as goal

abbrev pub invariant-loop-wire : goal.invariant-loop-wire
invariant-loop-wire l = map (λ queue. queue.items) l.queues.items ≡ map (λ wire. wire.items) (take l.wire-index l.values)
