-- A set for a stream has the words of the stream in its sources.
use Rattle.std.proofs.Common.{◌≡◌, ℕ, zero, suc, ◌+◌, ◌*◌, ◌≤◌, List, [], ◌∷◌, ◌++◌, length, map, take, drop, refl, sym, ap, ◌∙◌, subst, arith, sum_by, append_assoc}
use Rattle.std.specs.List.{range_with_len}
use Rattle.std.proofs.Math.Seq.{drop-nil}
use Rattle.std.proofs.lemmas.List.{length-drop}
use Rattle.std.proofs.lemmas.List.FromFn.{map-range_with_len_more}
use Rattle.std.proofs.lemmas.List.Sums.{sum_by-cons, sum_by-append}
use Rattle.raw_model.specs.Program.{ProgramSet, PortProgram}
use Rattle.raw_model.specs.Fed.{fed_ports, fed}
use Rattle.raw_model.specs.Bounds.{all_words}
use Rattle.raw_stream.specs.Streams.{Stream}
use Rattle.raw_stream.specs.Unrolled.{width, first, word_count}
use Rattle.raw_stream_choice.specs.StreamSets.{source_words, source_program, sink_program, stream_port_programs, stream_set, IsSetForStream, EachHasItsWords}

pub dropped : (a n : ℕ) (xs : List ℕ) → drop n (drop a xs) ≡ drop (a + n) xs
dropped zero n xs = let none : n ≡ 0 + n = omega arith in ap (λ k. drop k xs) none
dropped (suc a) n [] = drop-nil n ∙ sym (drop-nil (suc a + n))
dropped (suc a) n (x ∷ xs) = let more : suc a + n ≡ suc (a + n) = omega arith in rw more (dropped a n xs)

long_enough : (n : ℕ) (xs : List ℕ) → n ≤ length xs → length (take n xs) ≡ n
long_enough zero xs few = refl
long_enough (suc n) [] few = absurd (omega (arith, few))
long_enough (suc n) (x ∷ xs) few = ap suc (long_enough n xs (omega (arith, few)))

-- one source more, whose words are taken of what is left
pub next_source : (s : Stream) (words : List ℕ) (ports new : List PortProgram) (port : PortProgram) (left own rest : List ℕ) (q many : ℕ)
    → (ports ≡ map (source_program s words) (range_with_len 0 q)) × (left ≡ drop (first s q) words) → many ≡ s.count * width s q → own ≡ take many left → rest ≡ drop many left
    → port ≡ record { words = own; capacity = 0 } → new ≡ ports ++ port ∷ []
    → (new ≡ map (source_program s words) (range_with_len 0 (q + 1))) × (rest ≡ drop (first s (q + 1)) words)
next_source s words ports new port left own rest q many before n front back is pushed =
    let taken : take many left ≡ source_words s words q = ap (λ k. take k left) n ∙ ap (take (s.count * width s q)) before.1 in
    let same : port ≡ source_program s words q = is ∙ ap (λ xs. let p : PortProgram = record { words = xs; capacity = 0 } in p) (front ∙ taken) in
    let next : suc q ≡ q + 1 = omega arith in (
      pushed ∙ ap (λ ps. ps ++ port ∷ []) before.0 ∙ ap (λ p. map (source_program s words) (range_with_len 0 q) ++ p ∷ []) same
          ∙ sym (map-range_with_len_more (source_program s words) 0 q q (omega arith)),
      back ∙ ap (λ k. drop k left) n ∙ ap (drop (s.count * width s q)) before.1 ∙ dropped (first s q) (s.count * width s q) words ∙ ap (λ k. drop (first s k) words) next,
    )

-- one sink more
pub next_sink : (make : ℕ → PortProgram) (front ports new : List PortProgram) (port : PortProgram) (q : ℕ) → ports ≡ front ++ map make (range_with_len 0 q) → port ≡ make q
    → new ≡ ports ++ port ∷ [] → new ≡ front ++ map make (range_with_len 0 (q + 1))
next_sink make front ports new port q before is pushed =
    pushed ∙ ap (λ ps. ps ++ port ∷ []) before ∙ ap (λ p. (front ++ map make (range_with_len 0 q)) ++ p ∷ []) is
    ∙ append_assoc front (map make (range_with_len 0 q)) (make q ∷ [])
    ∙ ap (λ ps. front ++ ps) (sym (map-range_with_len_more make 0 q q (omega arith)))

module _ (s : Stream) (words : List ℕ) where
  abbrev behind : List PortProgram
  behind = map (sink_program s) (range_with_len 0 (length s.sinks))

  first_grows : (m q : ℕ) → first s q ≤ first s (q + m)
  first_grows zero q = let same : q + 0 ≡ q = omega arith in rw same (omega arith)
  first_grows (suc m) q =
      let later : q + suc m ≡ suc (q + m) = omega arith in
      let more = first_grows m q in
      rw later (omega (arith, more))

  -- a source whose words are there has as many as all rows take
  pub taken_long : (q : ℕ) → first s (suc q) ≤ length words → length (source_words s words q) ≡ s.count * width s q
  taken_long q few = let left = length-drop (first s q) words in long_enough (s.count * width s q) (drop (first s q) words) (omega (arith, left, few))

  -- ---- with other words
  sinks_fed : (qs : List ℕ) (more : List ℕ) → fed_ports (map (sink_program s) qs) more ≡ map (sink_program s) qs
  sinks_fed [] more = refl
  sinks_fed (q ∷ qs) more = ap (λ ports. sink_program s q ∷ ports) (sinks_fed qs more)

  module _ (others : List ℕ) where
    -- the sources from q on, where the words of others are left for them, and the sinks behind them
    all_fed : (m q : ℕ) → first s (q + m) ≤ length words
        → fed_ports (map (source_program s words) (range_with_len q m) ++ behind) (drop (first s q) others) ≡ map (source_program s others) (range_with_len q m) ++ behind
    all_fed zero q few = sinks_fed (range_with_len 0 (length s.sinks)) (drop (first s q) others)
    all_fed (suc m) q few =
        let n : ℕ = s.count * width s q in
        let left : List ℕ = drop (first s q) others in
        let rest : List PortProgram = map (source_program s words) (range_with_len (q + 1) m) ++ behind in
        let next : q + 1 ≡ suc q = omega arith in
        let later : q + suc m ≡ suc q + m = omega arith in
        let again : q + suc m ≡ (q + 1) + m = omega arith in
        let few_later : first s (suc q + m) ≤ length words = subst (λ k. first s k ≤ length words) later few in
        let grows : first s (suc q) ≤ first s (suc q + m) = first_grows m (suc q) in
        let own : length (source_words s words q) ≡ n = taken_long q (omega (arith, grows, few_later)) in
        let rest_next : drop n left ≡ drop (first s (q + 1)) others = dropped (first s q) n others ∙ ap (λ k. drop (first s k) others) (sym next) in
        ap (λ k. record { words = take k left; capacity = 0 } ∷ fed_ports rest (drop k left)) own
        ∙ ap (λ ports. source_program s others q ∷ ports) (ap (fed_ports rest) rest_next ∙ all_fed m (q + 1) (subst (λ k. first s k ≤ length words) again few))

    pub ports_fed : word_count s ≤ length words → fed_ports (stream_port_programs s words) others ≡ stream_port_programs s others
    ports_fed few = all_fed (length s.sources) 0 (let all : 0 + length s.sources ≡ length s.sources = omega arith in subst (λ k. first s k ≤ length words) (sym all) few)

  -- ---- and as many
  abbrev words_in : PortProgram → ℕ
  words_in port = length port.words

  sinks_no_words : (qs : List ℕ) → sum_by words_in (map (sink_program s) qs) ≡ 0
  sinks_no_words [] = refl
  sinks_no_words (q ∷ qs) = let rest = sinks_no_words qs in sum_by-cons words_in (sink_program s q) (map (sink_program s) qs) ∙ omega (arith, rest)

  all_words_long : (m q : ℕ) → first s (q + m) ≤ length words → first s q + sum_by words_in (map (source_program s words) (range_with_len q m)) ≡ first s (q + m)
  all_words_long zero q few = let same : q + 0 ≡ q = omega arith in rw same (omega arith)
  all_words_long (suc m) q few =
      let n : ℕ = s.count * width s q in
      let next : q + 1 ≡ suc q = omega arith in
      let later : q + suc m ≡ suc q + m = omega arith in
      let few_later : first s (suc q + m) ≤ length words = subst (λ k. first s k ≤ length words) later few in
      let grows : first s (suc q) ≤ first s (suc q + m) = first_grows m (suc q) in
      let own : length (source_words s words q) ≡ n = taken_long q (omega (arith, grows, few_later)) in
      let rest = subst (λ k. first s (suc q) + sum_by words_in (map (source_program s words) (range_with_len k m)) ≡ first s (suc q + m)) (sym next) (all_words_long m (suc q) few_later) in
      let cons = sum_by-cons words_in (source_program s words q) (map (source_program s words) (range_with_len (q + 1) m)) in
      rw later (last (first s q) n _ _ _ _ own cons rest)
    where
      last : (a n own sum rest f : ℕ) → own ≡ n → sum ≡ own + rest → (a + n) + rest ≡ f → a + sum ≡ f
      last a n own sum rest f x y z = omega (arith, x, y, z)

  as_many : length words ≡ word_count s → length words ≡ sum_by words_in (stream_port_programs s words)
  as_many e =
      let sources = map (source_program s words) (range_with_len 0 (length s.sources)) in
      let both = sum_by-append words_in sources behind in
      let none = sinks_no_words (range_with_len 0 (length s.sinks)) in
      let same : 0 + length s.sources ≡ length s.sources = omega arith in
      let few : first s (0 + length s.sources) ≤ length words = rw same (omega (arith, e)) in
      let all = all_words_long (length s.sources) 0 few in
      let is : first s 0 + sum_by words_in sources ≡ first s (length s.sources) = all ∙ ap (first s) same in
      omega (arith, both, none, is, e)

-- a set for a stream with other words in its sources is that with those
pub set_fed : (s : Stream) (words others : List ℕ) (set : ProgramSet) → length words ≡ word_count s → IsSetForStream s words set → fed set others ≡ stream_set s others set.limit set.tiles
set_fed s words others set e same =
    ap (λ (g : ProgramSet). fed g others) same
    ∙ ap (λ (ports : List PortProgram). let g : ProgramSet = record (stream_set s words set.limit set.tiles) { ports = ports } in g) (ports_fed s words others (omega (arith, e)))

pub each_has_its_words : EachHasItsWords
each_has_its_words s words set e same = record {
  own = set_fed s words words set e same ∙ sym same;
  each = as_many s words e ∙ ap all_words (sym same);
}
