use Rattle.std.proofs.Common.{◌≡◌, ◌++◌, take}
use Rattle.raw_grid.specs.Topology.{Topology}
use Rattle.raw_cut.proofs.copying.add_ports.Given as goal

abbrev pub invariant-loop-port : goal.invariant-loop-port
invariant-loop-port l =
    ◌≡◌ {A = Topology} l.topo (record { cols = l.fn.topo.cols; rows = l.fn.topo.rows; places = l.fn.topo.places ++ take l.port l.other.places })
