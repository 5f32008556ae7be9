use Rattle.std.proofs.Common.{◌≡◌, ◌++◌, take}
use Rattle.raw_grid.specs.Topology.{Topology}
use Rattle.raw_stream_choice.proofs.ports.add_ports.Given as goal

abbrev pub invariant-loop-place : goal.invariant-loop-place
invariant-loop-place l =
    ◌≡◌ {A = Topology} l.topo (record { cols = l.fn.topo.cols; rows = l.fn.topo.rows; places = l.fn.topo.places ++ take l.place-index l.places })
