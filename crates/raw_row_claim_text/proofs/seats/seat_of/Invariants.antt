use Rattle.std.proofs.Common.{◌≡◌, false, take}
use Rattle.std.specs.List.{list_any}
use Rattle.raw_set_text.specs.Entry.{same_place}
use Rattle.raw_row_claim_text.proofs.seats.seat_of.Given as goal

abbrev pub invariant-loop-port : goal.invariant-loop-port
invariant-loop-port l = list_any (same_place l.place) (take l.port l.topo.places) ≡ false
