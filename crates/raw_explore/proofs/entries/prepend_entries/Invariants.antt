use Rattle.std.proofs.Common.{◌≡◌, ◌+◌, ◌*◌, ◌≤◌, ◌++◌, length, drop}
use Rattle.std.specs.List.{flat_map}
use Rattle.raw_trace.specs.Text.{entry_text}
use Rattle.raw_explore.proofs.entries.prepend_entries.Given as goal

abbrev pub invariant-entries : goal.invariant-entries
invariant-entries l =
    (l.left ≤ length l.fn.entries) × (l.line ≡ flat_map entry_text (drop l.left l.fn.entries) ++ l.fn.line)
    × (length l.line + 31 * l.left ≤ length l.fn.line + 31 * length l.fn.entries)

abbrev pub decreases-entries : goal.decreases-entries
decreases-entries l = l.left
