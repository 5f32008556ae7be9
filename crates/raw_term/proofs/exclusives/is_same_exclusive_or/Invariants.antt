use Rattle.std.proofs.Common.{◌≡◌, ◌*◌, ◌≤◌, length}
use Rattle.raw_term.specs.Exclusives.{are_nothing, is_same_exclusive_or}
use Rattle.raw_term.proofs.exclusives.is_same_exclusive_or.Given as goal

abbrev pub invariant-marks : goal.invariant-marks
invariant-marks l = (are_nothing l.nodes (length l.marks.bits) l.marks ≡ is_same_exclusive_or l.nodes l.a l.b) × (length l.marks.bits ≤ length l.nodes * 63)

abbrev pub decreases-marks : goal.decreases-marks
decreases-marks l = length l.marks.bits
