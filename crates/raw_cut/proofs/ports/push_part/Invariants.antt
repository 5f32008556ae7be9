use Rattle.std.proofs.Common.{◌≡◌, ◌≤◌, ◌++◌, drop}
use Rattle.raw_rows.specs.Given.{part}
use Rattle.raw_cut.proofs.ports.push_part.Given as goal

abbrev pub invariant-loop-node : goal.invariant-loop-node
invariant-loop-node l =
    (l.all.items ++ part l.port (drop l.node-index l.nodes) (drop l.next l.words) ≡ l.initial.all.items ++ part l.port l.nodes l.words) × (l.next ≤ l.node-index)
