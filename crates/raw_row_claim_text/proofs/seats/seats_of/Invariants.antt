use Rattle.raw_row_claim_text.specs.Seats.{AreSeatsUpTo}
use Rattle.raw_row_claim_text.proofs.seats.seats_of.Given as goal

abbrev pub invariant-loop-number : goal.invariant-loop-number
invariant-loop-number l = AreSeatsUpTo l.topo l.places l.number l.seats.items
