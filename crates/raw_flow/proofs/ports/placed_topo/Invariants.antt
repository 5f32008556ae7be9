use Rattle.std.proofs.Common.{◌≡◌, take, ◌++◌}
use Rattle.raw_flow.proofs.ports.placed_topo.Given as goal

-- the ports so far stand on the grid
abbrev pub invariant-loop-number : goal.invariant-loop-number
invariant-loop-number l = l.topo ≡ record { cols = l.flow.cols; rows = l.flow.rows; places = take l.number (l.ports.sources ++ l.ports.sinks) }
