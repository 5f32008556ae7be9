use Rattle.std.proofs.Common.{◌≡◌, ◌-◌, ◌+◌, ◌≤◌, false, length, drop}
use Rattle.std.specs.Fmt.{digits_onto}
use Rattle.raw_explore.proofs.line.write_hex.Given as goal

abbrev pub invariant-digits : goal.invariant-digits
invariant-digits l =
    (l.first + 8 ≡ l.fn.end) × (l.first ≤ l.start) × (l.start ≤ l.fn.end) × (length l.bytes ≡ length l.fn.bytes)
    × (digits_onto (l.start - l.first) 16 false l.rest (drop l.start l.bytes) ≡ digits_onto 8 16 false l.fn.word (drop l.fn.end l.fn.bytes))

abbrev pub decreases-digits : goal.decreases-digits
decreases-digits l = l.start - l.first
