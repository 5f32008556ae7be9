use Rattle.std.proofs.Common.{◌≡◌, map, take}
use Rattle.raw_row_terms.specs.Seated.{reseated}
use Rattle.raw_row_claim_text.proofs.seats.reseated_nodes.Given as goal

abbrev pub invariant-loop-node : goal.invariant-loop-node
invariant-loop-node l = l.new.items ≡ map (reseated l.seats) (take l.node-index l.nodes)
