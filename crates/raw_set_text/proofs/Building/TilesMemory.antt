-- The words of a memory, one by one.
use Rattle.std.proofs.Common.{◌≡◌, ℕ, zero, suc, ◌+◌, ◌-◌, ◌*◌, ◌/◌, ◌<◌, ◌≤◌, Bool, true, false, cond, ltb, leb, ◌||◌, ◌&&◌, List, [], ◌∷◌, ◌++◌, map, length, get_or, Option, Some, None, refl, sym, ap, ◌∙◌, inl, inr, ⊎_elim, arith}
use Rattle.std.specs.Option.{option_or, is_some}
use Rattle.std.specs.List.{filter_map, cons_option, range_with_len, list_any}
use Rattle.std.proofs.lemmas.Bool.{leb-true, ltb-true, le-leb, lt-leb, lt-ltb, le-ltb, and_parts, or_parts, cases_Bool, cases_lt, cases_eq, cond-false}
use Rattle.std.proofs.lemmas.Bool.Decides.{leb_tells}
use Rattle.raw_model.specs.declared.program.DataWord.{DataWord}
use Rattle.raw_set_text.specs.Entries.{word_at}
use Rattle.raw_set_text.specs.Memory.{word_of, word_from, cell_at}
use Rattle.std.specs.BTreeMap.{BTreeMap}
use Rattle.raw_set_text.proofs.Building.TilesLists.{or_swapped}

-- a range has one number more at its end
pub range_next : (a n : ℕ) → range_with_len a (n + 1) ≡ range_with_len a n ++ (a + n) ∷ []
range_next a zero = let e : a ≡ a + 0 = omega arith in ap (λ (k : ℕ). k ∷ []) e
range_next a (suc n) =
    let more : suc n + 1 ≡ suc (n + 1) = omega arith in
    let last : a + 1 + n ≡ a + suc n = omega arith in
    ap (λ m. range_with_len a m) more ∙ ap (λ ks. a ∷ ks) (range_next (a + 1) n ∙ ap (λ k. range_with_len (a + 1) n ++ k ∷ []) last)

-- a test of places
pub any_alike : (p q : ℕ → Bool) (ks : List ℕ) → ((k : ℕ) → p k ≡ q k) → list_any p ks ≡ list_any q ks
any_alike p q [] h = refl
any_alike p q (k ∷ ks) h = ap (λ b. b || list_any p ks) (h k) ∙ ap (λ b. q k || b) (any_alike p q ks h)

none_from : (o : Option ℕ) → is_some o ≡ false → o ≡ None
none_from None h = refl
none_from (Some x) h = cc

-- none of them was given
pub none_given : (memory : BTreeMap ℕ ℕ) (first count a i : ℕ) → list_any (λ i. is_some (word_of memory (first + i))) (range_with_len a count) ≡ false → a ≤ i → i < a + count → word_of memory (first + i) ≡ None
none_given memory first zero a i h low high = absurd (omega arith)
none_given memory first (suc n) a i h low high =
    let parts = or_parts _ _ h in
    ⊎_elim (λ (e : i ≡ a). ap (λ k. word_of memory (first + k)) e ∙ none_from _ parts.0) (λ (e : i ≡ a → ⊥). none_given memory first n (a + 1) i parts.1 (⊎_elim (λ (k : a < i). omega (arith, k)) (λ (k : i ≤ a). absurd (e (omega (arith, k, low)))) (cases_lt a i)) (omega (arith, high))) (cases_eq i a)

leb_same : (a b c d : ℕ) → (a ≤ b → c ≤ d) → (c ≤ d → a ≤ b) → leb a b ≡ leb c d
leb_same a b c d f g =
    ⊎_elim (λ w. w.0 ∙ sym (le-leb c d (f w.1))) (λ w. w.0 ∙ sym (lt-leb c d (⊎_elim (λ (h : d < c). h) (λ (h : c ≤ d). absurd (omega (arith, g h, w.1))) (cases_lt d c)))) (leb_tells a b)

ltb_same : (a b c d : ℕ) → (a < b → c < d) → (c < d → a < b) → ltb a b ≡ ltb c d
ltb_same a b c d f g =
    ⊎_elim (λ h. lt-ltb a b h ∙ sym (lt-ltb c d (f h))) (λ h. le-ltb a b h ∙ sym (le-ltb c d (⊎_elim (λ (k : c < d). absurd (omega (arith, g k, h))) (λ (k : d ≤ c). k) (cases_lt c d)))) (cases_lt a b)

-- a word's place among words that stand from another place on
pub word_placed : (first i start : ℕ) (words : List ℕ) → start ≡ 4 * first → word_at (4 * i) start words ≡ word_from first words i
word_placed first i start words e =
    let low : leb start (4 * i) ≡ leb first i = leb_same _ _ _ _ (λ h. omega arith) (λ h. omega arith) in
    let high : ltb (4 * i) (start + 4 * length words) ≡ ltb i (first + length words) = ltb_same _ _ _ _ (λ h. omega arith) (λ h. omega arith) in
    let place : (4 * i - start) / 4 ≡ i - first = omega arith in
    ap (λ b. cond (b && ltb (4 * i) (start + 4 * length words)) (Some (get_or words ((4 * i - start) / 4) 0)) None) low
    ∙ ap (λ b. cond (leb first i && b) (Some (get_or words ((4 * i - start) / 4) 0)) None) high
    ∙ ap (λ k. cond (leb first i && ltb i (first + length words)) (Some (get_or words k 0)) None) place

-- words that are written where none were given are the words that are given first
pub written_free : (first i : ℕ) (words : List ℕ) (memory : BTreeMap ℕ ℕ) → ((k : ℕ) → k < length words → word_of memory (first + k) ≡ None) → option_or (word_from first words i) (word_of memory i) ≡ option_or (word_of memory i) (word_from first words i)
written_free first i words memory free =
    or_swapped (word_of memory i) (word_from first words i) (⊎_elim (λ h. inr (here (and_parts _ _ h))) (λ h. inl (cond-false _ _ _ h)) (cases_Bool (leb first i && ltb i (first + length words))))
  where
    here : (leb first i ≡ true) × (ltb i (first + length words) ≡ true) → word_of memory i ≡ None
    here h =
        let low : first ≤ i = leb-true _ _ h.0 in
        let high : i < first + length words = ltb-true _ _ h.1 in
        let place : i ≡ first + (i - first) = omega arith in
        ap (λ k. word_of memory k) place ∙ free (i - first) (omega arith)

-- the cells of a memory are those that a function of addresses gives, where it gives them place by place
pub cells_same : (n a : ℕ) (memory : BTreeMap ℕ ℕ) (f : ℕ → Option DataWord) → ((i : ℕ) → a ≤ i → i < a + n → cell_at memory i ≡ f (4 * i)) → filter_map (cell_at memory) (range_with_len a n) ≡ filter_map f (map (λ i. 4 * i) (range_with_len a n))
cells_same zero a memory f h = refl
cells_same (suc n) a memory f h =
    ap (λ o. cons_option o (filter_map (cell_at memory) (range_with_len (a + 1) n))) (h a (omega arith) (omega arith))
    ∙ ap (λ cells. cons_option (f (4 * a)) cells) (cells_same n (a + 1) memory f (λ i low high. h i (omega arith) (omega arith)))
