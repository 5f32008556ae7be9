-- A set that is fed with the words of a stream is fed with its rows.
use Rattle.std.proofs.Common.{◌≡◌, ℕ, zero, suc, ◌+◌, ◌*◌, ◌^◌, ◌<◌, ◌≤◌, Bool, true, false, cond, List, [], ◌∷◌, ◌++◌, length, map, take, drop, Some, refl, sym, ap, ◌∙◌, subst, arith}
use Rattle.std.specs.Prelude.{◌==◌, slice_get, slice_index, sum_by}
use Rattle.std.specs.List.{range_with_len}
use Rattle.std.proofs.Math.Nat.{suc-mul}
use Rattle.std.proofs.Math.Numerals.{suc-eq-add-one}
use Rattle.std.proofs.lemmas.Bool.{eqb-true}
use Rattle.std.proofs.lemmas.List.{drop_more as words_behind}
use Rattle.std.proofs.lemmas.List.Sums.{sum_by-cons}
use Rattle.raw_model.specs.Program.{PortProgram}
use Rattle.raw_model.specs.Machine.{words_of}
use Rattle.raw_model.specs.Fed.{fed_ports}
use Rattle.raw_term.proofs.Terms.{none_some, some_is}
use Rattle.raw_stream.specs.declared.row_node.RowNode.{RowNode}
use Rattle.raw_stream.specs.declared.row_node.RowNode.TheVariants.{Input, Const, Apply, Pre}
use Rattle.raw_stream.specs.Streams.{Stream}
use Rattle.raw_stream.specs.Unrolled.{takes, width, rank, first, word_count, word_place, words_from, row_words}
use Rattle.raw_stream.proofs.Places.{first_grows}
use Rattle.raw_row_terms.specs.RowTerms.{AllWords}
use Rattle.raw_rows.specs.Given.{takes_words, part, given_by}
use Rattle.raw_rows.specs.Kernels.{IsRow, AreRows, fed_by}
use Rattle.raw_rows.proofs.Kernels.{take_more, drop_more}

small_at : (words : List ℕ) → AllWords words → (i : ℕ) → slice_index words i < 2 ^ 32
small_at [] small i = omega arith
small_at (x ∷ words) small zero = small 0 x refl
small_at (x ∷ words) small (suc i) = small_at words (λ j y e. small (suc j) y e) i

-- how many inputs of a source stand before the next node
rank_next : (q : ℕ) (nodes : List RowNode) (v : ℕ) (n : RowNode) → slice_get nodes v ≡ Some n → sum_by (takes q) (take (suc v) nodes) ≡ sum_by (takes q) (take v nodes) + takes q n
rank_next q [] v n e = none_some n e
rank_next q (m ∷ nodes) zero n e = sum_by-cons (takes q) m [] ∙ omega (arith, ap (takes q) (some_is m n e))
rank_next q (m ∷ nodes) (suc v) n e =
    sum_by-cons (takes q) m (take (suc v) nodes) ∙ omega (arith, rank_next q nodes v n e, sum_by-cons (takes q) m (take v nodes))

module _ (s : Stream) (inputs : List ℕ) where
  -- a row has its words
  words_many : (r v : ℕ) (nodes : List RowNode) → length (words_from s inputs r v nodes) ≡ sum_by takes_words nodes
  words_many r v [] = refl
  words_many r v (Input q ∷ nodes) = let rest = words_many r (v + 1) nodes in omega (arith, rest, sum_by-cons takes_words (Input q) nodes)
  words_many r v (Const word ∷ nodes) = let rest = words_many r (v + 1) nodes in omega (arith, rest, sum_by-cons takes_words (Const word) nodes)
  words_many r v (Apply op a b ∷ nodes) = let rest = words_many r (v + 1) nodes in omega (arith, rest, sum_by-cons takes_words (Apply op a b) nodes)
  words_many r v (Pre a word ∷ nodes) = let rest = words_many r (v + 1) nodes in omega (arith, rest, sum_by-cons takes_words (Pre a word) nodes)

  words_small : AllWords inputs → (r v : ℕ) (nodes : List RowNode) → AllWords (words_from s inputs r v nodes)
  words_small small r v [] i x e = none_some x e
  words_small small r v (Input q ∷ nodes) zero x e = subst (λ y. y < 2 ^ 32) (some_is (slice_index inputs (word_place s r q v)) x e) (small_at inputs small (word_place s r q v))
  words_small small r v (Input q ∷ nodes) (suc i) x e = words_small small r (v + 1) nodes i x e
  words_small small r v (Const word ∷ nodes) i x e = words_small small r (v + 1) nodes i x e
  words_small small r v (Apply op a b ∷ nodes) i x e = words_small small r (v + 1) nodes i x e
  words_small small r v (Pre a word ∷ nodes) i x e = words_small small r (v + 1) nodes i x e

  pub are_rows : AllWords inputs → (k n : ℕ) → AreRows s (map (row_words s inputs) (range_with_len k n))
  are_rows small k zero i words e = none_some words e
  are_rows small k (suc n) zero words e =
      subst (IsRow s) (some_is (row_words s inputs k) words e) (record { many = words_many k 0 s.nodes; small = words_small small k 0 s.nodes })
  are_rows small k (suc n) (suc i) words e = are_rows small (k + 1) n i words e

  -- what a source gives of a row
  module _ (q r : ℕ) where
    abbrev base : ℕ
    base = first s q + r * width s q

    abbrev Later : List RowNode → ℕ → Type 0
    Later nodes v = (at : ℕ) → at ≡ base + rank s q v → at + sum_by (takes q) nodes ≤ length inputs → part q nodes (words_from s inputs r v nodes) ≡ take (sum_by (takes q) nodes) (drop at inputs)

    source_gives : (nodes : List RowNode) (v at : ℕ) → at ≡ base + rank s q v → ((i : ℕ) (n : RowNode) → slice_get nodes i ≡ Some n → slice_get s.nodes (v + i) ≡ Some n)
        → at + sum_by (takes q) nodes ≤ length inputs → part q nodes (words_from s inputs r v nodes) ≡ take (sum_by (takes q) nodes) (drop at inputs)
    source_gives [] v at is there enough = refl
    source_gives (n ∷ nodes) v at is there enough =
        by n refl (λ next below. source_gives nodes (v + 1) next below (λ i m e. let same : v + suc i ≡ v + 1 + i = omega arith in subst (λ j. slice_get s.nodes j ≡ Some m) same (there (suc i) m e)))
      where
        here : slice_get s.nodes v ≡ Some n
        here = let same : v + 0 ≡ v = omega arith in subst (λ j. slice_get s.nodes j ≡ Some n) same (there 0 n refl)

        next_rank : rank s q (v + 1) ≡ rank s q v + takes q n
        next_rank = ap (rank s q) (sym (suc-eq-add-one v)) ∙ rank_next q s.nodes v n here

        whole : sum_by (takes q) (n ∷ nodes) ≡ takes q n + sum_by (takes q) nodes
        whole = sum_by-cons (takes q) n nodes

        -- a node that takes no word of this source
        passed : takes q n ≡ 0 → Later nodes (v + 1) → part q nodes (words_from s inputs r (v + 1) nodes) ≡ take (sum_by (takes q) (n ∷ nodes)) (drop at inputs)
        passed none later =
            let same : sum_by (takes q) nodes ≡ sum_by (takes q) (n ∷ nodes) = omega (arith, whole, none) in
            later at (omega (arith, is, next_rank, none)) (omega (arith, enough, same)) ∙ ap (λ m. take m (drop at inputs)) same

        taken : (p : ℕ) → n ≡ Input p → (b : Bool) → (p == q) ≡ b → Later nodes (v + 1)
            → cond b (slice_index inputs (word_place s r p v) ∷ []) [] ++ part q nodes (words_from s inputs r (v + 1) nodes) ≡ take (sum_by (takes q) (n ∷ nodes)) (drop at inputs)
        taken p is_input false other later = passed (ap (takes q) is_input ∙ ap (λ b. cond b 1 0) other) later
        taken p is_input true same later =
            let one : takes q n ≡ 1 = ap (takes q) is_input ∙ ap (λ b. cond b 1 0) same in
            let place : word_place s r p v ≡ at = ap (λ j. word_place s r j v) (eqb-true p q same) ∙ sym is in
            let below : at < length inputs = omega (arith, enough, whole, one) in
            let many : sum_by (takes q) (n ∷ nodes) ≡ suc (sum_by (takes q) nodes) = omega (arith, whole, one) in
            ap (λ j. slice_index inputs j ∷ part q nodes (words_from s inputs r (v + 1) nodes)) place
            ∙ ap (λ xs. slice_index inputs at ∷ xs) (later (at + 1) (omega (arith, is, next_rank, one)) (omega (arith, enough, many)))
            ∙ ap (λ xs. take (suc (sum_by (takes q) nodes)) xs) (sym (words_behind inputs at 0 below))
            ∙ ap (λ m. take m (drop at inputs)) (sym many)

        by : (m : RowNode) → n ≡ m → Later nodes (v + 1) → part q (m ∷ nodes) (words_from s inputs r v (m ∷ nodes)) ≡ take (sum_by (takes q) (n ∷ nodes)) (drop at inputs)
        by (Input p) e later = taken p e (p == q) refl later
        by (Const word) e later = passed (ap (takes q) e) later
        by (Apply op a b) e later = passed (ap (takes q) e) later
        by (Pre a word) e later = passed (ap (takes q) e) later

  -- and of rows
  source_rows : (q k n : ℕ) → first s q + (k + n) * width s q ≤ length inputs → given_by s q (map (row_words s inputs) (range_with_len k n)) ≡ take (n * width s q) (drop (first s q + k * width s q) inputs)
  source_rows q k zero enough = let none : 0 ≡ 0 * width s q = omega arith in ap (λ m. take m (drop (first s q + k * width s q) inputs)) none
  source_rows q k (suc n) enough =
      let w : ℕ = width s q in
      let at : ℕ = first s q + k * w in
      let all : (k + suc n) * w ≡ k * w + (w + n * w) = grind arith in
      let next : first s q + (k + 1) * w ≡ at + w = grind arith in
      let rest : first s q + (k + 1 + n) * w ≤ length inputs = let same : k + 1 + n ≡ k + suc n = omega arith in subst (λ m. first s q + m * w ≤ length inputs) (sym same) enough in
      let none : at ≡ at + rank s q 0 = omega arith in
      let one : part q s.nodes (row_words s inputs k) ≡ take w (drop at inputs) =
      source_gives q k s.nodes 0 at none (λ i m e. let same : i ≡ 0 + i = omega arith in subst (λ j. slice_get s.nodes j ≡ Some m) same e) (omega (arith, enough, all)) in
      ap (λ xs. xs ++ given_by s q (map (row_words s inputs) (range_with_len (k + 1) n))) one
      ∙ ap (λ xs. take w (drop at inputs) ++ xs) (source_rows q (k + 1) n rest)
      ∙ ap (λ xs. take w (drop at inputs) ++ take (n * w) xs) (ap (λ m. drop m inputs) next ∙ sym (drop_more at w (at + w) inputs refl))
      ∙ take_more w (n * w) (suc n * w) (drop at inputs) (suc-mul n w ∙ omega arith)

  -- all ports
  ports_fed : (ports : List PortProgram) (k : ℕ) → k + length ports ≤ length s.sources → length inputs ≡ word_count s
      → ((i : ℕ) → i < length ports → length (words_of (slice_get ports i)) ≡ s.count * width s (k + i))
      → fed_ports ports (drop (first s k) inputs) ≡ fed_by s (map (row_words s inputs) (range_with_len 0 s.count)) k ports
  ports_fed [] k low many each = refl
  ports_fed (port ∷ ports) k low many each =
      let rows : List (List ℕ) = map (row_words s inputs) (range_with_len 0 s.count) in
      let here : k + 0 ≡ k = omega arith in
      let long : length port.words ≡ s.count * width s k = each 0 (omega arith) ∙ ap (λ j. s.count * width s j) here in
      let below : k < length s.sources = omega (arith, low) in
      let grows : first s k + s.count * width s k ≤ word_count s = first_grows s k (length s.sources) below in
      let none : 0 + s.count ≡ s.count = omega arith in
      let start : first s k + 0 * width s k ≡ first s k = omega arith in
      let fits : first s k + (0 + s.count) * width s k ≤ length inputs = subst (λ n. first s k + n * width s k ≤ length inputs) (sym none) (omega (arith, grows, many)) in
      let own : take (length port.words) (drop (first s k) inputs) ≡ given_by s k rows =
      ap (λ n. take n (drop (first s k) inputs)) long ∙ ap (λ n. take (s.count * width s k) (drop n inputs)) (sym start) ∙ sym (source_rows k 0 s.count fits) in
      let rest : drop (length port.words) (drop (first s k) inputs) ≡ drop (first s (k + 1)) inputs =
      drop_more (first s k) (length port.words) (first s (suc k)) inputs (omega (arith, long)) ∙ ap (λ n. drop (first s n) inputs) (suc-eq-add-one k) in
      ap (λ xs. record port { words = xs } ∷ fed_ports ports (drop (length port.words) (drop (first s k) inputs))) own
      ∙ ap (λ xs. record port { words = given_by s k rows } ∷ fed_ports ports xs) rest
      ∙ ap (λ ps. record port { words = given_by s k rows } ∷ ps) (ports_fed ports (k + 1) (omega (arith, low)) many (λ i lt. later i lt))
    where
      later : (i : ℕ) → i < length ports → length (words_of (slice_get ports i)) ≡ s.count * width s (k + 1 + i)
      later i lt = let same : k + suc i ≡ k + 1 + i = omega arith in each (suc i) (omega (arith, lt)) ∙ ap (λ j. s.count * width s j) same

  pub all_fed : (ports : List PortProgram) → length ports ≤ length s.sources → length inputs ≡ word_count s → ((i : ℕ) → i < length ports → length (words_of (slice_get ports i)) ≡ s.count * width s i)
      → fed_ports ports inputs ≡ fed_by s (map (row_words s inputs) (range_with_len 0 s.count)) 0 ports
  all_fed ports low many each = ports_fed ports 0 (omega (arith, low)) many (λ i lt. let same : i ≡ 0 + i = omega arith in each i lt ∙ ap (λ j. s.count * width s j) same)
