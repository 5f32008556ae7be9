-- The cells of a memory, whose words stand in a map by rising places.
use Rattle.std.proofs.Common.{◌≡◌, ℕ, zero, suc, ◌+◌, ◌-◌, ◌*◌, ◌<◌, ◌≤◌, Bool, true, false, cond, ltb, leb, ◌&&◌, List, [], ◌∷◌, map, length, take, get_or, Option, Some, None, refl, sym, ap, ◌∙◌, inl, inr, ⊎_elim, arith}
use Rattle.std.specs.Option.{option_map, option_or}
use Rattle.std.specs.List.{All, AllByRecursion, filter_map, range_with_len, list_any}
use Rattle.std.specs.List.Sorted.{IsStrictlySortedBy}
use Rattle.std.specs.declared.cmp.Ordering.TheVariants.{Less, Equal, Greater}
use Rattle.std.specs.Ordering.{nat_cmp, is_eq}
use Rattle.std.specs.Cmp.{nat_cmp_is}
use Rattle.std.specs.Map.{lookup, keys_of}
use Rattle.std.specs.BTreeMap.{BTreeMap, is_at, keys}
use Rattle.std.proofs.lemmas.Bool.{lt-ltb, le-leb, le-ltb, lt-leb, cases_lt, cases_eq, cond-false, and_right}
use Rattle.std.proofs.lemmas.Bool.Decides.{nat_tests}
use Rattle.std.proofs.lemmas.List.{length-take, get_or-take}
use Rattle.std.proofs.lemmas.List.Folds.{list_any-append, list_any_at}
use Rattle.std.proofs.lemmas.List.FromFn.{get_or-range_with_len, length-range_with_len}
use Rattle.raw_model.specs.declared.program.DataWord.{DataWord}
use Rattle.raw_model.specs.declared.limits.TheConstants.{MEMORY_WORDS}
use Rattle.raw_set_text.specs.Memory.{word_of, word_from, cells_within, IsInside}
use Rattle.raw_set_text.proofs.Building.TilesMemory.{range_next}

-- the cell that an entry of the map is
abbrev pub entry_cell : ℕ × ℕ → DataWord
entry_cell e = record { address = 4 * e.0; word = e.1 }

cell_from : List (ℕ × ℕ) → ℕ → Option DataWord
cell_from es i = option_map (λ word. record { address = 4 * i; word = word }) (lookup (is_at (nat_cmp i)) es)

is_less : (x y : ℕ) → x < y → nat_cmp x y ≡ Less
is_less x y h = sym (nat_cmp_is x y Less h)

is_greater : (x y : ℕ) → y < x → nat_cmp x y ≡ Greater
is_greater x y h = sym (nat_cmp_is x y Greater h)

is_equal : (x y : ℕ) → x ≡ y → nat_cmp x y ≡ Equal
is_equal x y h = sym (nat_cmp_is x y Equal h)

less_is : (x y : ℕ) → nat_cmp x y ≡ Less → x < y
less_is x y h = grind (arith, nat_tests, h)

-- keys behind a key are above it
above : (k low : ℕ) (es : List (ℕ × ℕ)) → low ≤ k + 1 → AllByRecursion (λ y. nat_cmp k y ≡ Less) (keys_of es) → AllByRecursion (λ (e : ℕ × ℕ). low ≤ e.0) es
above k low [] h less = tt
above k low (e ∷ es) h less = (omega (arith, less_is k e.0 less.0), above k low es h less.1)

-- no entry is found below all keys
found_none : (i : ℕ) (es : List (ℕ × ℕ)) → AllByRecursion (λ (e : ℕ × ℕ). i + 1 ≤ e.0) es → lookup (is_at (nat_cmp i)) es ≡ None
found_none i [] high = refl
found_none i (e ∷ es) high = rw (is_less i e.0 (omega (arith, high.0))) (found_none i es high.1)

-- functions that agree from a place on
alike_from : (f g : ℕ → Option DataWord) (n a : ℕ) → ((i : ℕ) → a ≤ i → f i ≡ g i) → filter_map f (range_with_len a n) ≡ filter_map g (range_with_len a n)
alike_from f g zero a h = refl
alike_from f g (suc n) a h = rw (h a (omega arith), alike_from f g n (a + 1) (λ i le. h i (omega arith))) refl

-- entries by rising keys are found place by place
in_order : (n a top : ℕ) (es : List (ℕ × ℕ)) → top ≡ a + n → IsStrictlySortedBy nat_cmp (keys_of es) → AllByRecursion (λ (e : ℕ × ℕ). a ≤ e.0) es → AllByRecursion (λ (e : ℕ × ℕ). e.0 < top) es
    → map entry_cell es ≡ filter_map (cell_from es) (range_with_len a n)
unfolding IsStrictlySortedBy cell_from
in_order zero a top [] is sorted low high = refl
in_order zero a top (e ∷ es) is sorted low high = absurd (omega (arith, low.0, high.0))
in_order (suc n) a top [] is sorted low high = in_order n (a + 1) top [] (omega arith) sorted tt tt
in_order (suc n) a top (e ∷ es) is sorted low high =
    ⊎_elim {C = map entry_cell (e ∷ es) ≡ filter_map (cell_from (e ∷ es)) (range_with_len a (suc n))}
    (λ (here : a ≡ e.0).
    let later : filter_map (cell_from (e ∷ es)) (range_with_len (a + 1) n) ≡ filter_map (cell_from es) (range_with_len (a + 1) n) =
    alike_from (cell_from (e ∷ es)) (cell_from es) n (a + 1) (λ i le. rw (is_greater i e.0 (omega arith)) refl) in
    rw (is_equal a e.0 here, later, ← in_order n (a + 1) top es (omega arith) sorted.1 (above e.0 (a + 1) es (omega arith) sorted.0) high.1, here) refl)
    (λ (other : a ≡ e.0 → ⊥).
    let less : a < e.0 = ⊎_elim (λ (h : a < e.0). h) (λ (h : e.0 ≤ a). absurd (other (omega (arith, low.0)))) (cases_lt a e.0) in
    let rest : AllByRecursion (λ (x : ℕ × ℕ). a + 1 ≤ x.0) (e ∷ es) = (omega arith, above e.0 (a + 1) es (omega arith) sorted.0) in
    rw (found_none a (e ∷ es) rest) (in_order n (a + 1) top (e ∷ es) (omega arith) sorted rest high))
    (cases_eq a e.0)

all_low : (es : List (ℕ × ℕ)) → AllByRecursion (λ (e : ℕ × ℕ). 0 ≤ e.0) es
all_low [] = tt
all_low (e ∷ es) = (omega arith, all_low es)

pub all_high : (top : ℕ) (es : List (ℕ × ℕ)) → All (λ place. place < top) (keys_of es) → AllByRecursion (λ (e : ℕ × ℕ). e.0 < top) es
all_high top [] h = tt
all_high top (e ∷ es) h = (h 0 0 (omega arith), all_high top es (λ k d lt. h (suc k) d (omega (arith, lt))))

-- the cells of a memory are its entries
pub cells_are : (memory : BTreeMap ℕ ℕ) → IsStrictlySortedBy nat_cmp (keys memory) → IsInside memory → map entry_cell memory.entries ≡ cells_within MEMORY_WORDS memory
unfolding cells_within cell_from
cells_are memory sorted inside = in_order MEMORY_WORDS 0 MEMORY_WORDS memory.entries (omega arith) sorted (all_low memory.entries) (all_high MEMORY_WORDS memory.entries inside)

past_all : (i top : ℕ) (es : List (ℕ × ℕ)) → top ≤ i → AllByRecursion (λ (e : ℕ × ℕ). e.0 < top) es → lookup (is_at (nat_cmp i)) es ≡ None
past_all i top [] le high = refl
past_all i top (e ∷ es) le high = rw (is_greater i e.0 (omega (arith, high.0))) (past_all i top es le high.1)

-- no word stands past the memory
pub none_past : (memory : BTreeMap ℕ ℕ) (i : ℕ) → IsInside memory → MEMORY_WORDS ≤ i → word_of memory i ≡ None
none_past memory i inside le = past_all i MEMORY_WORDS memory.entries le (all_high MEMORY_WORDS memory.entries inside)

-- no word stands past the last of words
word_beyond : (first q : ℕ) (words : List ℕ) → first + length words ≤ q → word_from first words q ≡ None
word_beyond first q words h = cond-false (leb first q && ltb q (first + length words)) _ None (and_right (leb first q) _ (le-ltb _ _ h))

-- one word more of those that are written
pub word_next : (first i q : ℕ) (words : List ℕ) (before : Option ℕ) → i < length words
    → cond (is_at (nat_cmp (first + i)) q) (Some (get_or words i 0)) (option_or (word_from first (take i words) q) before) ≡ option_or (word_from first (take (i + 1) words) q) before
word_next first i q words before lt =
    let more : length (take (i + 1) words) ≡ i + 1 = omega (arith, length-take (i + 1) words) in
    let so_far : length (take i words) ≡ i = omega (arith, length-take i words) in
    ⊎_elim {C = cond (is_at (nat_cmp (first + i)) q) (Some (get_or words i 0)) (option_or (word_from first (take i words) q) before) ≡ option_or (word_from first (take (i + 1) words) q) before}
    (λ (here : first + i ≡ q).
    let place : q - first ≡ i = omega arith in
    rw (is_equal (first + i) q here, le-leb first q (omega arith), lt-ltb q (first + length (take (i + 1) words)) (omega (arith, more)), place, get_or-take (i + 1) words i 0 (omega arith)) refl)
    (λ (other : first + i ≡ q → ⊥).
    let apart : is_eq (nat_cmp (first + i) q) ≡ false = ⊎_elim {C = is_eq (nat_cmp (first + i) q) ≡ false} (λ (h : first + i < q). rw (is_less (first + i) q h) refl) (λ (h : q ≤ first + i). rw (is_greater (first + i) q (⊎_elim (λ (k : q < first + i). k) (λ (k : first + i ≤ q). absurd (other (omega arith))) (cases_lt q (first + i)))) refl) (cases_lt (first + i) q) in
    rw apart (ap (λ o. option_or o before) (same other)))
    (cases_eq (first + i) q)
  where
    same : (first + i ≡ q → ⊥) → word_from first (take i words) q ≡ word_from first (take (i + 1) words) q
    same other =
        let more : length (take (i + 1) words) ≡ i + 1 = omega (arith, length-take (i + 1) words) in
        let so_far : length (take i words) ≡ i = omega (arith, length-take i words) in
        ⊎_elim {C = word_from first (take i words) q ≡ word_from first (take (i + 1) words) q}
        (λ (low : first ≤ q).
        ⊎_elim {C = word_from first (take i words) q ≡ word_from first (take (i + 1) words) q}
        (λ (inside : q < first + i).
        rw (lt-ltb q (first + length (take i words)) (omega (arith, so_far)), lt-ltb q (first + length (take (i + 1) words)) (omega (arith, more)), get_or-take i words (q - first) 0 (omega arith), get_or-take (i + 1) words (q - first) 0 (omega arith)) refl)
        (λ (past : first + i ≤ q).
        let far : first + i + 1 ≤ q = ⊎_elim (λ (k : first + i < q). omega arith) (λ (k : q ≤ first + i). absurd (other (omega arith))) (cases_lt (first + i) q) in
        word_beyond first q (take i words) (omega (arith, so_far)) ∙ sym (word_beyond first q (take (i + 1) words) (omega (arith, more))))
        (cases_lt q (first + i)))
        (λ (below : q < first). rw (lt-leb first q below) refl)
        (⊎_elim (λ (k : q < first). inr k) (λ (k : first ≤ q). inl k) (cases_lt q first))

-- one place more, and a word that is there
pub any_next : (p : ℕ → Bool) (i : ℕ) → list_any p (range_with_len 0 i) ≡ false → p i ≡ false → list_any p (range_with_len 0 (i + 1)) ≡ false
any_next p i so_far here =
    let last : 0 + i ≡ i = omega arith in
    ap (list_any p) (range_next 0 i) ∙ list_any-append p (range_with_len 0 i) ((0 + i) ∷ []) ∙ rw (so_far, last, here) refl

pub any_here : (p : ℕ → Bool) (i count : ℕ) → i < count → p i ≡ true → list_any p (range_with_len 0 count) ≡ true
any_here p i count lt here =
    let read : get_or (range_with_len 0 count) i 0 ≡ i = get_or-range_with_len 0 count i 0 lt ∙ omega arith in
    list_any_at p (range_with_len 0 count) i 0 (omega (arith, length-range_with_len 0 count)) (ap p read ∙ here)
