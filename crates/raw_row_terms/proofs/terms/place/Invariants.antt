use Rattle.std.proofs.Common.{◌≡◌, ◌≤◌, drop, length, []}
use Rattle.raw_row_terms.specs.RowTerms.{placed_from}
use Rattle.raw_row_terms.proofs.terms.place.Given as goal

abbrev pub invariant-loop-node : goal.invariant-loop-node
invariant-loop-node l =
    (placed_from l.initial.table l.ins 0 [] l.nodes ≡ placed_from l.table l.ins l.taken l.numbers.items (drop l.node-index l.nodes))
    × (length l.numbers.items ≡ l.node-index)
    × (l.taken ≤ l.node-index)
