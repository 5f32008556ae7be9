use Rattle.std.proofs.Common.{◌≡◌}
use Rattle.raw_term.specs.Exclusives.{signs}
use Rattle.raw_term.proofs.exclusives.Marked.signs.Given as goal

abbrev pub invariant-loop-k : goal.invariant-loop-k
invariant-loop-k l = l.self ≡ signs l.bits l.by l.term l.k l.fn.self
