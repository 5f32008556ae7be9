use Rattle.std.proofs.Common.{◌≡◌, ◌+◌, ◌++◌, length, map, take}
use Rattle.raw_trace.specs.Firing.{sent_entry}
use Rattle.raw_explore.proofs.firing.push_sent.Given as goal

abbrev pub invariant-loop-i : goal.invariant-loop-i
invariant-loop-i l =
    (l.i-end ≡ length l.fn.sent) × (l.entries.items ≡ l.fn.entries.items ++ map sent_entry (take l.i l.fn.sent))
    × (length l.entries.items ≡ length l.fn.entries.items + l.i)
