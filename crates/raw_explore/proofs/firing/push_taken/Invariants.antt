use Rattle.std.proofs.Common.{◌≡◌, ◌+◌, ◌++◌, length, map, take}
use Rattle.raw_trace.specs.declared.entry.Entry.TheVariants as entry
use Rattle.raw_explore.proofs.firing.push_taken.Given as goal

abbrev pub invariant-loop-i : goal.invariant-loop-i
invariant-loop-i l =
    (l.i-end ≡ length l.fn.takes) × (l.entries.items ≡ l.fn.entries.items ++ map entry.Taken (take l.i l.fn.takes))
    × (length l.entries.items ≡ length l.fn.entries.items + l.i)
