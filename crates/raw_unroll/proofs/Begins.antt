-- Where the words of sources begin.
use Rattle.std.proofs.Common.{◌≡◌, ℕ, ◌+◌, ◌*◌, ◌<◌, ◌≤◌, [], ◌∷◌, ◌++◌, length, get_or, map, ap, ◌∙◌, arith}
use Rattle.std.specs.List.{range_with_len}
use Rattle.std.proofs.lemmas.List.{length-map, map-append, get_or-map}
use Rattle.std.proofs.lemmas.List.FromFn.{length-range_with_len, get_or-range_with_len}
use Rattle.raw_stream.specs.Streams.{Stream}
use Rattle.raw_stream.specs.Unrolled.{width, first, word_count}
use Rattle.raw_stream.proofs.Sums.{range_push}
use Rattle.raw_stream.proofs.Places.{first_grows}

pub begins_within : (s : Stream) (q : ℕ) → q < length s.sources → first s q + s.count * width s q ≤ word_count s
begins_within s q within = first_grows s q (length s.sources) within

-- with one source more
pub firsts_more : (s : Stream) (q : ℕ) → map (first s) (range_with_len 0 (q + 1)) ≡ map (first s) (range_with_len 0 q) ++ first s q ∷ []
firsts_more s q =
    let same : 0 + q ≡ q = omega arith in
    ap (map (first s)) (range_push 0 q) ∙ map-append (first s) (range_with_len 0 q) ((0 + q) ∷ []) ∙ ap (λ k. map (first s) (range_with_len 0 q) ++ first s k ∷ []) same

pub firsts_long : (s : Stream) (n : ℕ) → length (map (first s) (range_with_len 0 n)) ≡ n
firsts_long s n = length-map (range_with_len 0 n) (first s) ∙ length-range_with_len 0 n

pub firsts_at : (s : Stream) (n q : ℕ) → q < n → get_or (map (first s) (range_with_len 0 n)) q 0 ≡ first s q
firsts_at s n q within =
    get_or-map (first s) (range_with_len 0 n) q 0 0 (omega (arith, within, length-range_with_len 0 n))
    ∙ ap (first s) (get_or-range_with_len 0 n q 0 within ∙ omega arith)
