use Rattle.std.proofs.Common.{◌≡◌, ℕ, ◌+◌, ◌*◌}
use Rattle.raw_stream.specs.Streams.{Stream}
use Rattle.raw_rows.specs.Lengths.{counted}
use Rattle.raw_lengths.specs.Proofs.{AreCounted}
use Rattle.raw_lengths.proofs.deciding.pass_kernels.Given as goal

abbrev pub invariant-loop-k : goal.invariant-loop-k
invariant-loop-k l =
    (first : ℕ) → ((s : Stream) → l.fn.words.items ≡ counted s l.counters first)
    → AreCounted l.counters l.looks l.places first l.rows l._k × ((s : Stream) → l.now.items ≡ counted s l.counters (first + l._k * l.rows))
