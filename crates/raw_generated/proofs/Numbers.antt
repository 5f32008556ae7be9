-- The words of the source.
use Rattle.std.proofs.Common.{◌≡◌, ℕ, zero, suc, ◌+◌, ◌-◌, ◌^◌, ◌<◌, ◌≤◌, List, [], ◌∷◌, ◌++◌, length, refl, sym, ap, ◌∙◌, append_assoc, arith}
use Rattle.std.specs.List.{All}
use Rattle.std.proofs.lemmas.List.{append-nil}
use Rattle.std.proofs.lemmas.List.Elements.{All-nil, All-cons}
use Rattle.raw_generated.specs.Generated.{next_word, words_from}

-- one word more
pub words_more : (done added whole : List ℕ) (count i w next : ℕ) → i < count → added ≡ done ++ w ∷ [] → next ≡ next_word w → done ++ words_from (count - i) w ≡ whole → added ++ words_from (count - (i + 1)) next ≡ whole
unfolding words_from
words_more done added whole count i w next h e is left =
    let rest = words_from (count - (i + 1)) (next_word w) in
    let first : count - i ≡ suc (count - (i + 1)) = omega arith in
    ap (λ m. added ++ words_from (count - (i + 1)) m) is ∙ ap (λ ws. ws ++ rest) e ∙ append_assoc done (w ∷ []) rest ∙ ap (λ k. done ++ words_from k w) (sym first) ∙ left

-- no word more
pub words_done : (done whole : List ℕ) (count i w : ℕ) → count ≤ i → done ++ words_from (count - i) w ≡ whole → done ≡ whole
unfolding words_from
words_done done whole count i w h left =
    let none : count - i ≡ 0 = omega arith in
    sym (append-nil done) ∙ ap (λ k. done ++ words_from k w) (sym none) ∙ left

-- there are so many words
pub words_count : (k w : ℕ) → length (words_from k w) ≡ k
unfolding words_from
words_count zero w = refl
words_count (suc k) w = ap suc (words_count k (next_word w))

-- each has 32 bits
pub words_fit : (k w : ℕ) → w < 2 ^ 32 → All (λ word. word < 2 ^ 32) (words_from k w)
unfolding words_from
words_fit zero w h = All-nil (λ word. word < 2 ^ 32)
words_fit (suc k) w h = All-cons (λ word. word < 2 ^ 32) w (words_from k (next_word w)) h (words_fit k (next_word w) (omega arith))
