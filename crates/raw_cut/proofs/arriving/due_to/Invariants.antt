use Rattle.std.proofs.Common.{◌≡◌, map, take}
use Rattle.raw_stream.specs.Streams.{due_to}
use Rattle.raw_cut.proofs.arriving.due_to.Given as goal

abbrev pub invariant-loop-row : goal.invariant-loop-row
invariant-loop-row l = l.due.items ≡ due_to l.stream l.port (map (λ row. row.items) (take l.row-index l.values))
