use Rattle.std.proofs.Common.{◌≡◌, ◌++◌, drop}
use Rattle.std.specs.List.{filter_map}
use Rattle.raw_stream.specs.Streams.{due_of}
use Rattle.raw_cut.proofs.ports.due_in.Given as goal

abbrev pub invariant-loop-out : goal.invariant-loop-out
invariant-loop-out l = l.due.items ++ filter_map (due_of l.port) (drop l.out-index l.outs) ≡ filter_map (due_of l.port) l.outs
