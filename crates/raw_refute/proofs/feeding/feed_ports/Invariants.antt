use Rattle.std.proofs.Common.{◌≡◌, ◌≤◌, ◌++◌, take, drop, length}
use Rattle.std.specs.Prelude.{sum_by}
use Rattle.raw_model.specs.Program.{PortProgram}
use Rattle.raw_model.specs.Fed.{fed_ports}
use Rattle.raw_refute.proofs.feeding.feed_ports.Given as goal

abbrev pub invariant-loop-port : goal.invariant-loop-port
invariant-loop-port l =
    (take l.port-index l.ports ++ fed_ports (drop l.port-index l.ports) l.rest ≡ fed_ports l.fn.ports l.words)
    × (sum_by (λ (port : PortProgram). length port.words) (drop l.port-index l.ports) ≤ length l.rest)
