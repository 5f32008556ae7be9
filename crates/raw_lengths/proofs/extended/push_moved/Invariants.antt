use Rattle.std.proofs.Common.{◌≡◌, ◌++◌, length, map, take}
use Rattle.raw_rows.specs.Lengths.{moved}
use Rattle.raw_lengths.proofs.extended.push_moved.Given as goal

abbrev pub invariant-loop-counter : goal.invariant-loop-counter
invariant-loop-counter l = l.nodes.items ≡ l.initial.nodes.items ++ map (moved (length l.initial.nodes.items)) (take l.counter-index l.counters)
