use Rattle.std.proofs.Common.{◌≡◌, ◌*◌, ◌<◌, ◌≤◌, ℕ, List, length, map, sym, ap, arith}
use Rattle.std.specs.Prelude.{nat_lt}
use Rattle.std.proofs.lemmas.Bool.{lt-ltb, le-ltb}
use Rattle.raw_stream.specs.Streams.{Stream}
use Rattle.raw_stream.specs.Unrolled.{width}
use Rattle.raw_stream.proofs.Sums.{none_more, some_one}
use Rattle.raw_stream_text.specs.Streams.{words_to}
use Rattle.raw_stream_text.specs.Building.{feed_in}
use Rattle.raw_stream_text.proofs.finish.has_more.Goals as goal

pub returns-then-len-taken_of : goal.returns-then-len-taken_of
returns-then-len-taken_of c =
    let s : Stream = c.args.stream.now in
    let feeds : List (ℕ × List ℕ) = map feed_in c.args.feeds.now in
    let q : ℕ = c.loop-port.port in
    let within : q < length s.sources = omega (arith, ap (λ (x : Stream). length x.sources) c.stream.view_is) in
    let long : length c.in_ok-words.words.items ≡ length (words_to feeds q) = ap length c.in_ok-words.ensures in
    let over : s.count * width s q < length (words_to feeds q) = omega (arith, long, c.taken_of.ensures.value) in
    sym (some_one (λ r. nat_lt (s.count * width s r) (length (words_to feeds r))) (length s.sources) q within (lt-ltb (s.count * width s q) (length (words_to feeds q)) over))

pub loop-port-preserved : goal.loop-port-preserved
loop-port-preserved c =
    let s : Stream = c.args.stream.now in
    let feeds : List (ℕ × List ℕ) = map feed_in c.args.feeds.now in
    let q : ℕ = c.loop-port.port in
    let long : length c.in_ok-words.words.items ≡ length (words_to feeds q) = ap length c.in_ok-words.ensures in
    let within : length (words_to feeds q) ≤ s.count * width s q = omega (arith, long, c.taken_of.ensures.value) in
    none_more (λ r. nat_lt (s.count * width s r) (length (words_to feeds r))) q c.loop-port.invariant (le-ltb (s.count * width s q) (length (words_to feeds q)) within)
