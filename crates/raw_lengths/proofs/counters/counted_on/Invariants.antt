use Rattle.std.proofs.Common.{◌≡◌, ℕ, ◌+◌}
use Rattle.raw_stream.specs.Streams.{Stream}
use Rattle.raw_rows.specs.Lengths.{counted}
use Rattle.raw_lengths.proofs.counters.counted_on.Given as goal

abbrev pub invariant-loop-r : goal.invariant-loop-r
invariant-loop-r l = (s : Stream) (before : ℕ) → l.fn.words.items ≡ counted s l.counters before → l.now.items ≡ counted s l.counters (before + l._r)
