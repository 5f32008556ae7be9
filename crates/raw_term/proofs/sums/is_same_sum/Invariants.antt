use Rattle.std.proofs.Common.{◌≡◌, ◌≤◌, length}
use Rattle.raw_term.specs.Sums.{is_nothing, is_same_sum}
use Rattle.raw_term.proofs.sums.is_same_sum.Given as goal

abbrev pub invariant-terms : goal.invariant-terms
invariant-terms l = (is_nothing l.nodes (length l.sum.factors) l.sum ≡ is_same_sum l.nodes l.a l.b) × (length l.sum.factors ≤ length l.nodes)

abbrev pub decreases-terms : goal.decreases-terms
decreases-terms l = length l.sum.factors
