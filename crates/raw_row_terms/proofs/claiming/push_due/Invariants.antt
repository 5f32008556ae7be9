use Rattle.std.proofs.Common.{◌≡◌, ◌++◌, drop}
use Rattle.std.specs.List.{filter_map}
use Rattle.raw_stream.specs.Streams.{due_of}
use Rattle.raw_row_terms.proofs.claiming.push_due.Given as goal

abbrev pub invariant-loop-out : goal.invariant-loop-out
invariant-loop-out l = l.due.items ++ filter_map (due_of l.port) (drop l.out-index l.outs) ≡ l.initial.due.items ++ filter_map (due_of l.port) l.outs
