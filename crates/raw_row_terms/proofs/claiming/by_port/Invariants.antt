use Rattle.std.proofs.Common.{◌≡◌, take}
use Rattle.std.specs.List.{filter_map, flat_map}
use Rattle.raw_stream.specs.Streams.{due_of}
use Rattle.raw_row_terms.proofs.claiming.by_port.Given as goal

abbrev pub invariant-loop-port : goal.invariant-loop-port
invariant-loop-port l = l.due.items ≡ flat_map (λ q. filter_map (due_of q) l.outs) (take l.port-index l.order)
