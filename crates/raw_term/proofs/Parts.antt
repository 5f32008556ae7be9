-- Parts of the words of a memory: bytes and half words that are read, and bytes that are stored.
use Rattle.std.proofs.Common.{◌≡◌, ℕ, zero, suc, ◌+◌, ◌<◌, ◌≤◌, List, [], ◌∷◌, length, get_or, set, refl, sym, ap, ◌∙◌, subst, inl, inr, ⊎_elim, ◌⊎◌, arith, length-set}
use Rattle.std.specs.Prelude.{slice_index}
use Rattle.std.specs.List.{All}
use Rattle.std.specs.Int.{w16, w32, to_be_bytes, from_be_bytes}
use Rattle.std.proofs.lemmas.Bool.{cases_eq}
use Rattle.std.proofs.lemmas.List.{get_or-set_same, get_or-set_other}
use Rattle.std.proofs.lemmas.Nat.{be_bytes_4}
use Rattle.raw_model.specs.TileTable.{stored, half_at, word_at}
use Rattle.raw_model.proofs.Words.{byte_in}

-- the four bytes of a word in a memory
module _ (memory : List ℕ) (a : ℕ) where
  abbrev four : List ℕ
  four = slice_index memory a ∷ slice_index memory (a + 1) ∷ slice_index memory (a + 2) ∷ slice_index memory (a + 3) ∷ []

  there : (r : ℕ) → r < 4 → get_or four r 0 ≡ slice_index memory (a + r)
  there zero h = let e : a ≡ a + 0 = omega arith in ap (λ i. slice_index memory i) e
  there (suc (suc (suc (suc r)))) h = absurd (omega (arith, h))
  there _ h = refl

  module _ (bytes : All (λ byte. byte < 256) memory) where
    small : (i : ℕ) → get_or four i 0 < 256
    small zero = byte_in memory a bytes
    small (suc zero) = byte_in memory (a + 1) bytes
    small (suc (suc zero)) = byte_in memory (a + 2) bytes
    small (suc (suc (suc zero))) = byte_in memory (a + 3) bytes
    small (suc (suc (suc (suc i)))) = omega arith

    pub bytes_are : to_be_bytes w32 (word_at memory a) ≡ four
    bytes_are = be_bytes_4 four (word_at memory a) refl small refl

    pub byte_read : (r : ℕ) → r < 4 → slice_index (to_be_bytes w32 (word_at memory a)) r ≡ slice_index memory (a + r)
    byte_read r h = ap (λ xs. slice_index xs r) bytes_are ∙ there r h

    pub half_read : (r : ℕ) → r + 1 < 4 → half_at (to_be_bytes w32 (word_at memory a)) r ≡ half_at memory (a + r)
    half_read r h =
        let next : a + (r + 1) ≡ a + r + 1 = omega arith in
        ap (λ x. from_be_bytes w16 (x ∷ slice_index (to_be_bytes w32 (word_at memory a)) (r + 1) ∷ [])) (byte_read r (omega (arith, h)))
        ∙ ap (λ y. from_be_bytes w16 (slice_index memory (a + r) ∷ y ∷ [])) (byte_read (r + 1) h ∙ ap (λ i. slice_index memory i) next)

-- four bytes of a memory, from an address on
record Window (memory four : List ℕ) (a : ℕ) : Type 0 where
  pub inside : a + 4 ≤ length memory
  pub many : length four ≡ 4
  pub same : (k : ℕ) → k < 4 → get_or memory (a + k) 0 ≡ get_or four k 0

window_set : (memory four : List ℕ) (a r b : ℕ) → r < 4 → Window memory four a → Window (set memory (a + r) b) (set four r b) a
window_set memory four a r b l h = record {
  inside = omega (arith, h.inside, length-set memory (a + r) b);
  many = length-set four r b ∙ h.many;
  same = λ k m. ⊎_elim (at_same k) (at_other k m) (cases_eq k r);
}
  where
    at_same : (k : ℕ) → k ≡ r → get_or (set memory (a + r) b) (a + k) 0 ≡ get_or (set four r b) k 0
    at_same k e =
        ap (λ j. get_or (set memory (a + r) b) (a + j) 0) e ∙ get_or-set_same memory (a + r) b 0 (omega (arith, l, h.inside))
        ∙ sym (ap (λ j. get_or (set four r b) j 0) e ∙ get_or-set_same four r b 0 (omega (arith, l, h.many)))

    at_other : (k : ℕ) → k < 4 → (k ≡ r → ⊥) → get_or (set memory (a + r) b) (a + k) 0 ≡ get_or (set four r b) k 0
    at_other k m e = get_or-set_other memory (a + r) (a + k) b 0 (λ f. e (omega (arith, f))) ∙ h.same k m ∙ sym (get_or-set_other four r k b 0 e)

window_stored : (memory four : List ℕ) (a r : ℕ) (bytes : List ℕ) → r + length bytes ≤ 4 → Window memory four a → Window (stored memory (a + r) bytes) (stored four r bytes) a
window_stored memory four a r [] l h = h
window_stored memory four a r (b ∷ bytes) l h =
    let e : a + (r + 1) ≡ a + r + 1 = omega arith in
    subst (λ j. Window (stored (set memory (a + r) b) j bytes) (stored (set four r b) (r + 1) bytes) a) e
    (window_stored (set memory (a + r) b) (set four r b) a (r + 1) bytes (omega (arith, l)) (window_set memory four a r b (omega (arith, l)) h))

four_of : (xs : List ℕ) → length xs ≡ 4 → xs ≡ get_or xs 0 0 ∷ get_or xs 1 0 ∷ get_or xs 2 0 ∷ get_or xs 3 0 ∷ []
four_of (x ∷ y ∷ z ∷ w ∷ []) e = refl
four_of _ e = absurd (omega (arith, e))

word_window : (memory four : List ℕ) (a : ℕ) → Window memory four a → word_at memory a ≡ from_be_bytes w32 four
word_window memory four a h =
    let e : a ≡ a + 0 = omega arith in
    ap (λ x. from_be_bytes w32 (x ∷ get_or memory (a + 1) 0 ∷ get_or memory (a + 2) 0 ∷ get_or memory (a + 3) 0 ∷ [])) (ap (λ i. get_or memory i 0) e ∙ h.same 0 (omega arith))
    ∙ ap (λ x. from_be_bytes w32 (get_or four 0 0 ∷ x ∷ get_or memory (a + 2) 0 ∷ get_or memory (a + 3) 0 ∷ [])) (h.same 1 (omega arith))
    ∙ ap (λ x. from_be_bytes w32 (get_or four 0 0 ∷ get_or four 1 0 ∷ x ∷ get_or memory (a + 3) 0 ∷ [])) (h.same 2 (omega arith))
    ∙ ap (λ x. from_be_bytes w32 (get_or four 0 0 ∷ get_or four 1 0 ∷ get_or four 2 0 ∷ x ∷ [])) (h.same 3 (omega arith))
    ∙ sym (ap (λ xs. from_be_bytes w32 xs) (four_of four h.many))

-- the word in which bytes were stored
pub word_written : (memory : List ℕ) (a r : ℕ) (bytes : List ℕ) → a + 4 ≤ length memory → All (λ byte. byte < 256) memory → r + length bytes ≤ 4
    → word_at (stored memory (a + r) bytes) a ≡ from_be_bytes w32 (stored (to_be_bytes w32 (word_at memory a)) r bytes)
word_written memory a r bytes inside all l =
    word_window (stored memory (a + r) bytes) (stored (to_be_bytes w32 (word_at memory a)) r bytes) a
    (window_stored memory (to_be_bytes w32 (word_at memory a)) a r bytes l
    (record { inside = inside; many = refl; same = λ k m. sym (byte_read memory a all k m) }))

-- and those in which none were
byte_kept : (memory : List ℕ) (address : ℕ) (bytes : List ℕ) (j : ℕ) → (j < address) ⊎ (address + length bytes ≤ j) → get_or (stored memory address bytes) j 0 ≡ get_or memory j 0
byte_kept memory address [] j h = refl
byte_kept memory address (b ∷ bytes) j h =
    byte_kept (set memory address b) (address + 1) bytes j (⊎_elim (λ (l : j < address). inl (omega (arith, l))) (λ (l : address + suc (length bytes) ≤ j). inr (omega (arith, l))) h)
    ∙ get_or-set_other memory address j b 0 (λ e. ⊎_elim (λ (l : j < address). omega (arith, l, e)) (λ (l : address + suc (length bytes) ≤ j). omega (arith, l, e)) h)

pub word_kept : (memory : List ℕ) (address : ℕ) (bytes : List ℕ) (c : ℕ) → (c + 4 ≤ address) ⊎ (address + length bytes ≤ c) → word_at (stored memory address bytes) c ≡ word_at memory c
word_kept memory address bytes c apart =
    let at : (k : ℕ) → k < 4 → get_or (stored memory address bytes) (c + k) 0 ≡ get_or memory (c + k) 0 =
    λ k m. byte_kept memory address bytes (c + k) (⊎_elim (λ (l : c + 4 ≤ address). inl (omega (arith, l, m))) (λ (l : address + length bytes ≤ c). inr (omega (arith, l))) apart) in
    let e : c + 0 ≡ c = omega arith in
    let after : List ℕ = stored memory address bytes in
    ap (λ x. from_be_bytes w32 (x ∷ get_or after (c + 1) 0 ∷ get_or after (c + 2) 0 ∷ get_or after (c + 3) 0 ∷ []))
    (subst (λ j. get_or after j 0 ≡ get_or memory j 0) e (at 0 (omega arith)))
    ∙ ap (λ x. from_be_bytes w32 (get_or memory c 0 ∷ x ∷ get_or after (c + 2) 0 ∷ get_or after (c + 3) 0 ∷ [])) (at 1 (omega arith))
    ∙ ap (λ x. from_be_bytes w32 (get_or memory c 0 ∷ get_or memory (c + 1) 0 ∷ x ∷ get_or after (c + 3) 0 ∷ [])) (at 2 (omega arith))
    ∙ ap (λ x. from_be_bytes w32 (get_or memory c 0 ∷ get_or memory (c + 1) 0 ∷ get_or memory (c + 2) 0 ∷ x ∷ [])) (at 3 (omega arith))
