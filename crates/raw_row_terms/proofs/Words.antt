-- The numbers of the words of rows.
use Rattle.std.proofs.Common.{◌≡◌, ℕ, zero, suc, ◌+◌, ◌*◌, ◌^◌, ◌<◌, ◌≤◌, List, [], ◌∷◌, ◌++◌, length, map, Some, refl, sym, ap, ◌∙◌, subst, arith}
use Rattle.std.specs.Prelude.{slice_get, slice_index}
use Rattle.std.specs.List.{All, range_with_len}
use Rattle.std.proofs.lemmas.List.{map-append, get_or-map}
use Rattle.std.proofs.lemmas.List.FromFn.{length-range_with_len, get_or-range_with_len}
use Rattle.raw_model.specs.declared.limits.TheConstants.{MAX_ALL_WORDS}
use Rattle.raw_stream.specs.declared.row_node.RowNode.{RowNode}
use Rattle.raw_stream.specs.declared.row_node.RowNode.TheVariants.{Input, Const, Apply, Pre}
use Rattle.raw_stream.specs.Streams.{Stream, AreNamed}
use Rattle.raw_stream.specs.Unrolled.{width, first, word_count, word_place}
use Rattle.raw_stream.proofs.Places.{first_grows, word_within}
use Rattle.raw_stream.proofs.Sums.{range_push}
use Rattle.raw_row_terms.specs.declared.runs.WordRun.{WordRun}
use Rattle.raw_row_terms.specs.RowClaims.{numbers_from, row_numbers}
use Rattle.raw_row_terms.specs.WordRuns.{runs_from, number_in}

one_number : (s : Stream) (r q v : ℕ) → 1 + word_place s 0 q v + r * width s q ≡ 1 + word_place s r q v
one_number s r q v = omega arith

numbers_are : (s : Stream) (r v : ℕ) (nodes : List RowNode) → map (number_in r) (runs_from s v nodes) ≡ numbers_from s r v nodes
numbers_are s r v [] = refl
numbers_are s r v (Input q ∷ nodes) = ap (λ n. n ∷ map (number_in r) (runs_from s (v + 1) nodes)) (one_number s r q v) ∙ ap (λ ns. (1 + word_place s r q v) ∷ ns) (numbers_are s r (v + 1) nodes)
numbers_are s r v (Const word ∷ nodes) = numbers_are s r (v + 1) nodes
numbers_are s r v (Apply op a b ∷ nodes) = numbers_are s r (v + 1) nodes
numbers_are s r v (Pre a word ∷ nodes) = numbers_are s r (v + 1) nodes

pub row_is : (s : Stream) (r : ℕ) → map (number_in r) (runs_from s 0 s.nodes) ≡ row_numbers s r
row_is s r = numbers_are s r 0 s.nodes

each_more : (P : WordRun → Type 0) (x : WordRun) (xs : List WordRun) → P x → All P xs → All P (x ∷ xs)
each_more P x xs h all zero d lt = h
each_more P x xs h all (suc k) d lt = all k d (omega (arith, lt))

module _ (s : Stream) (named : AreNamed s) (few : word_count s ≤ MAX_ALL_WORDS) (r : ℕ) (row : r < s.count) where
  small_from : (v : ℕ) (nodes : List RowNode) → ((i : ℕ) (n : RowNode) → slice_get nodes i ≡ Some n → slice_get s.nodes (v + i) ≡ Some n) → All (λ run. number_in r run < 2 ^ 32) (runs_from s v nodes)
  small_from v [] at = λ k d lt. absurd (omega (arith, lt))
  small_from v (n ∷ nodes) at = by n refl (small_from (v + 1) nodes moved) where
    moved : (i : ℕ) (k : RowNode) → slice_get nodes i ≡ Some k → slice_get s.nodes (v + 1 + i) ≡ Some k
    moved i k e = let same : v + suc i ≡ v + 1 + i = omega arith in subst (λ j. slice_get s.nodes j ≡ Some k) same (at (suc i) k e)

    by : (m : RowNode) → n ≡ m → All (λ run. number_in r run < 2 ^ 32) (runs_from s (v + 1) nodes) → All (λ run. number_in r run < 2 ^ 32) (runs_from s v (m ∷ nodes))
    by (Input q) e rest =
        let same : v + 0 ≡ v = omega arith in
        let here : slice_get s.nodes v ≡ Some (Input q) = subst (λ j. slice_get s.nodes j ≡ Some n) same (at 0 n refl) ∙ ap (λ k. Some k) e in
        let inside = word_within s named r q v row here in
        let number : number_in r (record { first = 1 + word_place s 0 q v; step = width s q }) ≡ 1 + word_place s r q v = one_number s r q v in
        each_more (λ run. number_in r run < 2 ^ 32) (record { first = 1 + word_place s 0 q v; step = width s q }) (runs_from s (v + 1) nodes) (omega (arith, inside, number, few)) rest
    by (Const word) e rest = rest
    by (Apply op a b) e rest = rest
    by (Pre a word) e rest = rest

  pub numbers_small : All (λ run. number_in r run < 2 ^ 32) (runs_from s 0 s.nodes)
  numbers_small = small_from 0 s.nodes whole where
    whole : (i : ℕ) (n : RowNode) → slice_get s.nodes i ≡ Some n → slice_get s.nodes (0 + i) ≡ Some n
    whole i n e = let same : i ≡ 0 + i = omega arith in subst (λ j. slice_get s.nodes j ≡ Some n) same e

-- how many words stand before those of each source
pub first_is_small : (s : Stream) (q : ℕ) → q < length s.sources → word_count s ≤ MAX_ALL_WORDS → first s q < 2 ^ 32
first_is_small s q lt few = let grown = first_grows s q (length s.sources) lt in omega (arith, grown, few)

pub firsts_more : (s : Stream) (n : ℕ) → map (first s) (range_with_len 0 n) ++ first s n ∷ [] ≡ map (first s) (range_with_len 0 (n + 1))
firsts_more s n =
    let same : 0 + n ≡ n = omega arith in
    sym (ap (map (first s)) (range_push 0 n) ∙ map-append (first s) (range_with_len 0 n) ((0 + n) ∷ []) ∙ ap (λ k. map (first s) (range_with_len 0 n) ++ first s k ∷ []) same)

pub first_at : (s : Stream) (firsts : List ℕ) (q : ℕ) → firsts ≡ map (first s) (range_with_len 0 (length s.sources)) → q < length s.sources → slice_index firsts q ≡ first s q
first_at s firsts q is lt =
    let long : q < length (range_with_len 0 (length s.sources)) = omega (arith, lt, length-range_with_len 0 (length s.sources)) in
    let same : 0 + q ≡ q = omega arith in
    ap (λ xs. slice_index xs q) is ∙ get_or-map (first s) (range_with_len 0 (length s.sources)) q 0 0 long ∙ ap (first s) (get_or-range_with_len 0 (length s.sources) q 0 lt ∙ same)
