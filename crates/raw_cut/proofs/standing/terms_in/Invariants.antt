use Rattle.std.proofs.Common.{◌≡◌, take}
use Rattle.raw_cut.proofs.standing.terms_in.Given as goal

abbrev pub invariant-loop-number : goal.invariant-loop-number
invariant-loop-number l = l.nodes.items ≡ take l.number l.table
