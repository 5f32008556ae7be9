use Rattle.std.proofs.Common.{◌≡◌, length}
use Rattle.raw_clock.proofs.Sending.{AreCountedTo}
use Rattle.raw_clock.proofs.values.count_sent.Given as goal

abbrev pub invariant-loop-i : goal.invariant-loop-i
invariant-loop-i l = (l.i-end ≡ length l.fn.sent) × AreCountedTo l.fn.sent l.i l.fn.passed l.passed
