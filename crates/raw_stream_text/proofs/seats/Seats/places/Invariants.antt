use Rattle.std.proofs.Common.{◌≡◌, take}
use Rattle.raw_stream_text.specs.Edges.{places_of}
use Rattle.raw_stream_text.proofs.seats.Seats.places.Given as goal

abbrev pub invariant-loop-number : goal.invariant-loop-number
invariant-loop-number l = l.places.items ≡ places_of l.kind (take l.number l.self)
