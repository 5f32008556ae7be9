use Rattle.std.proofs.Common.{◌≡◌, take}
use Rattle.raw_row_claim_text.proofs.seats.places_of.Given as goal

abbrev pub invariant-loop-port : goal.invariant-loop-port
invariant-loop-port l = l.places.items ≡ take l.port l.topo.places
