use Rattle.std.proofs.Common.{◌≡◌, map, take}
use Rattle.raw_row_terms.specs.Seated.{reseated_out}
use Rattle.raw_row_claim_text.proofs.seats.reseated_outs.Given as goal

abbrev pub invariant-loop-out : goal.invariant-loop-out
invariant-loop-out l = l.new.items ≡ map (reseated_out l.seats) (take l.out-index l.outs)
