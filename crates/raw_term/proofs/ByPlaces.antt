-- Words by their places, as a list.
use Rattle.std.proofs.Common.{◌≡◌, ◌≢◌, ℕ, zero, suc, ◌+◌, ◌<◌, ◌≤◌, false, List, [], ◌∷◌, map, take, length, replicate, Option, Some, None, refl, sym, ap, ◌∙◌, subst, ⊎_elim, arith}
use Rattle.std.specs.Prelude.{slice_index, slice_index_or, slice_set, unwrap_or}
use Rattle.std.specs.List.{range_with_len}
use Rattle.std.specs.Map.{count_at, lookup}
use Rattle.std.specs.Ordering.{nat_cmp}
use Rattle.std.specs.Option.{IsSome}
use Rattle.std.specs.BTreeMap.{BTreeMap, get, is_at, Updates, IsUpperBound}
use Rattle.std.proofs.lemmas.Bool.{cases_lt, cases_eq}
use Rattle.std.proofs.lemmas.Bool.Decides.{nat_tests}
use Rattle.std.proofs.lemmas.List.{length-set, length-take, get_or-take, get_or_past, get_or-set_same, get_or-set_other, set_past, take-set-le, same_lists, get_or-replicate, length-replicate}
use Rattle.std.proofs.lemmas.List.FromFn.{length-map-range_with_len, get_or-map-range_with_len, take-map-range_with_len}
use Rattle.raw_term.specs.Sparse.{words_to, AreBelow, AreZeros}

-- a list by its places
abbrev pub list_by : ℕ → (ℕ → ℕ) → List ℕ
list_by n f = map f (range_with_len 0 n)

pub by_long : (n : ℕ) (f : ℕ → ℕ) → length (list_by n f) ≡ n
by_long n f = length-map-range_with_len f 0 n

pub by_at : (n i : ℕ) (f : ℕ → ℕ) (d : ℕ) → i < n → slice_index_or (list_by n f) i d ≡ f i
by_at n i f d l = get_or-map-range_with_len f 0 n i i d l (omega arith)

pub by_past : (n i : ℕ) (f : ℕ → ℕ) → n ≤ i → slice_index (list_by n f) i ≡ 0
by_past n i f l = get_or_past (list_by n f) i 0 (let e = by_long n f in omega (arith, l, e))

-- with another word at a place
pub by_set : (n i w : ℕ) (f g : ℕ → ℕ) → g i ≡ w → ((k : ℕ) → k ≢ i → g k ≡ f k) → list_by n g ≡ slice_set (list_by n f) i w
by_set n i w f g here there =
    same_lists (list_by n g) (slice_set (list_by n f) i w) (by_long n g ∙ sym (by_long n f) ∙ sym (length-set (list_by n f) i w)) at
  where
    at : (k d : ℕ) → k < length (list_by n g) → slice_index_or (list_by n g) k d ≡ slice_index_or (slice_set (list_by n f) i w) k d
    at k d l =
        let e = by_long n g in
        let h = by_long n f in
        let within : k < n = omega (arith, l, e) in
        ⊎_elim
        (λ (same : k ≡ i). by_at n k g d within ∙ ap g same ∙ here ∙ sym (get_or-set_same (list_by n f) i w d (omega (arith, within, same, h))) ∙ ap (λ j. slice_index_or (slice_set (list_by n f) i w) j d) (sym same))
        (λ (other : k ≢ i). by_at n k g d within ∙ there k other ∙ sym (by_at n k f d within) ∙ sym (get_or-set_other (list_by n f) i k w d other))
        (cases_eq k i)

pub by_zeros : (n : ℕ) (f : ℕ → ℕ) → ((k : ℕ) → f k ≡ 0) → list_by n f ≡ replicate n 0
by_zeros n f none =
    same_lists (list_by n f) (replicate n 0) (by_long n f ∙ sym (length-replicate n 0))
    (λ k d l. let e = by_long n f in let within : k < n = omega (arith, l, e) in by_at n k f d within ∙ none k ∙ sym (get_or-replicate n k 0 d within))

-- a word that is put into a front of a list, and into the list
take_set : (k c w : ℕ) (xs : List ℕ) → slice_set (take k xs) c w ≡ take k (slice_set xs c w)
take_set zero c w xs = refl
take_set (suc k) c w [] = refl
take_set (suc k) zero w (x ∷ xs) = refl
take_set (suc k) (suc c) w (x ∷ xs) = ap (λ ys. x ∷ ys) (take_set k c w xs)

pub put_front : (k c : ℕ) (g : ℕ → ℕ) (xs : List ℕ) → slice_set (take k xs) c (g (slice_index (take k xs) c)) ≡ take k (slice_set xs c (g (slice_index xs c)))
put_front k c g xs =
    ⊎_elim
    (λ (l : c < k). ap (λ w. slice_set (take k xs) c (g w)) (get_or-take k xs c 0 l) ∙ take_set k c (g (slice_index xs c)) xs)
    (λ (l : k ≤ c).
    set_past (take k xs) c (g (slice_index (take k xs) c)) (let e = length-take k xs in omega (arith, e, l)) ∙ sym (take-set-le k xs c (g (slice_index xs c)) l))
    (cases_lt c k)

-- the map
abbrev pub word_in : BTreeMap ℕ ℕ → ℕ → ℕ
word_in words i = count_at (get nat_cmp words) i

apart : (i k : ℕ) → k ≢ i → is_at (nat_cmp i) k ≡ false
apart i k n = grind (arith, nat_tests, n)

pub is_some_at : {o : Option ℕ} {w : ℕ} → o ≡ Some w → IsSome o
is_some_at e = subst IsSome (sym e) refl

pub word_there : (n i : ℕ) (words : BTreeMap ℕ ℕ) (o : Option ℕ) → AreBelow n words → get nat_cmp words i ≡ o → slice_index (words_to n words) i ≡ unwrap_or o 0
unfolding words_to
word_there n i words o below is = ⊎_elim (λ (l : i < n). by_at n i (word_in words) 0 l ∙ ap (λ p. unwrap_or p 0) is) (λ (l : n ≤ i). by_past n i (word_in words) l ∙ past o is l) (cases_lt i n) where
  past : (o : Option ℕ) → get nat_cmp words i ≡ o → n ≤ i → 0 ≡ unwrap_or o 0
  past None e l = refl
  past (Some w) e l = absurd (let h = below i (is_some_at e) in omega (arith, h, l))

pub word_put : (n i w : ℕ) (words new : BTreeMap ℕ ℕ) → Updates nat_cmp words new i (Some w) → words_to n new ≡ slice_set (words_to n words) i w
unfolding words_to
word_put n i w words new h = by_set n i w (word_in words) (word_in new) (ap (λ o. unwrap_or o 0) h.1) (λ k other. ap (λ o. unwrap_or o 0) (h.2 k (apart i k other)))

pub word_past : (n i w : ℕ) (words : BTreeMap ℕ ℕ) → n ≤ i → slice_set (words_to n words) i w ≡ words_to n words
unfolding words_to
word_past n i w words l = set_past (words_to n words) i w (let e = by_long n (word_in words) in omega (arith, l, e))

-- the words behind the last are 0
pub behind : (n i : ℕ) (words : BTreeMap ℕ ℕ) → AreBelow n words → IsUpperBound nat_cmp words i → AreZeros (i + 1) (words_to n words)
behind n i words below upper k l = word_there n k words (get nat_cmp words k) below refl ∙ none (get nat_cmp words k) refl where
  none : (o : Option ℕ) → get nat_cmp words k ≡ o → unwrap_or o 0 ≡ 0
  none None e = refl
  none (Some w) e = absurd (let h = upper k (is_some_at e) in grind (arith, nat_tests, h, l))

-- and what is before it stays
pub before : (n i : ℕ) (words new : BTreeMap ℕ ℕ) → i < n → Updates nat_cmp words new i None → words_to i new ≡ take i (words_to n words)
unfolding words_to
before n i words new l h =
    same_lists (list_by i (word_in new)) (list_by i (word_in words)) (by_long i (word_in new) ∙ sym (by_long i (word_in words)))
    (λ k d m. let e = by_long i (word_in new) in
    let within : k < i = omega (arith, m, e) in
    by_at i k (word_in new) d within ∙ ap (λ o. unwrap_or o 0) (h.2 k (apart i k (λ q. absurd (omega (arith, within, q))))) ∙ sym (by_at i k (word_in words) d within))
    ∙ sym (take-map-range_with_len (word_in words) 0 n i (omega (arith, l)))

pub no_words : (n : ℕ) (words : BTreeMap ℕ ℕ) → words.entries ≡ [] → words_to n words ≡ replicate n 0
unfolding words_to
no_words n words none = by_zeros n (word_in words) (λ k. ap (λ es. unwrap_or (lookup (is_at (nat_cmp k)) es) 0) none)

pub words_long : (n : ℕ) (words : BTreeMap ℕ ℕ) → length (words_to n words) ≡ n
unfolding words_to
words_long n words = by_long n (word_in words)

pub none_left : (words : BTreeMap ℕ ℕ) (i : ℕ) → length words.entries ≡ 0 → get nat_cmp words i ≡ None
none_left words i e = by words.entries e where
  by : (es : List (ℕ × ℕ)) → length es ≡ 0 → lookup (is_at (nat_cmp i)) es ≡ None
  by [] e = refl
  by (x ∷ es) e = absurd (omega (arith, e))
