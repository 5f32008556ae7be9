-- Words that are stored in a memory and read from it.
use Rattle.std.proofs.Common.{◌≡◌, ℕ, ◌+◌, ◌*◌, ◌^◌, ◌<◌, ◌≤◌, ◌⊎◌, List, [], ◌∷◌, length, get_or, set, refl, ap, ◌∙◌, inl, inr, ⊎_elim, arith}
use Rattle.std.specs.Int.{w32, to_be_bytes, from_be_bytes}
use Rattle.std.proofs.lemmas.Bool.{cases_lt}
use Rattle.std.proofs.lemmas.List.{length-set, get_or-set_same, get_or-set_other}
use Rattle.std.proofs.lemmas.Nat.{from_be_bytes-to_be_bytes_4}
use Rattle.raw_model.specs.TileTable.{stored, word_at}

module _ (memory : List ℕ) (a b0 b1 b2 b3 : ℕ) where
  -- four bytes that are stored
  abbrev four : List ℕ
  four = stored memory a (b0 ∷ b1 ∷ b2 ∷ b3 ∷ [])

  abbrev m1 : List ℕ
  m1 = set memory a b0

  abbrev m2 : List ℕ
  m2 = set m1 (a + 1) b1

  abbrev m3 : List ℕ
  m3 = set m2 (a + 1 + 1) b2

  four_other : (j : ℕ) → (j < a) ⊎ (a + 4 ≤ j) → get_or four j 0 ≡ get_or memory j 0
  four_other j apart =
      let n0 : j ≡ a → ⊥ = λ e. ⊎_elim (λ (h : j < a). omega arith) (λ (h : a + 4 ≤ j). omega arith) apart in
      let n1 : j ≡ a + 1 → ⊥ = λ e. ⊎_elim (λ (h : j < a). omega arith) (λ (h : a + 4 ≤ j). omega arith) apart in
      let n2 : j ≡ a + 1 + 1 → ⊥ = λ e. ⊎_elim (λ (h : j < a). omega arith) (λ (h : a + 4 ≤ j). omega arith) apart in
      let n3 : j ≡ a + 1 + 1 + 1 → ⊥ = λ e. ⊎_elim (λ (h : j < a). omega arith) (λ (h : a + 4 ≤ j). omega arith) apart in
      get_or-set_other m3 (a + 1 + 1 + 1) j b3 0 n3
      ∙ get_or-set_other m2 (a + 1 + 1) j b2 0 n2
      ∙ get_or-set_other m1 (a + 1) j b1 0 n1
      ∙ get_or-set_other memory a j b0 0 n0

  pub word_other : (c : ℕ) → (c + 4 ≤ a) ⊎ (a + 4 ≤ c) → word_at four c ≡ word_at memory c
  word_other c apart =
      let at : (k : ℕ) → k < 4 → get_or four (c + k) 0 ≡ get_or memory (c + k) 0 = λ k h. four_other (c + k) (side k h) in
      ap (λ x. from_be_bytes w32 (x ∷ get_or four (c + 1) 0 ∷ get_or four (c + 2) 0 ∷ get_or four (c + 3) 0 ∷ [])) (four_other c (side_0))
      ∙ ap (λ x. from_be_bytes w32 (get_or memory c 0 ∷ x ∷ get_or four (c + 2) 0 ∷ get_or four (c + 3) 0 ∷ [])) (at 1 (omega arith))
      ∙ ap (λ x. from_be_bytes w32 (get_or memory c 0 ∷ get_or memory (c + 1) 0 ∷ x ∷ get_or four (c + 3) 0 ∷ [])) (at 2 (omega arith))
      ∙ ap (λ x. from_be_bytes w32 (get_or memory c 0 ∷ get_or memory (c + 1) 0 ∷ get_or memory (c + 2) 0 ∷ x ∷ [])) (at 3 (omega arith))
    where
      side : (k : ℕ) → k < 4 → (c + k < a) ⊎ (a + 4 ≤ c + k)
      side k h = ⊎_elim (λ (l : c + 4 ≤ a). inl (omega arith)) (λ (r : a + 4 ≤ c). inr (omega arith)) apart

      side_0 : (c < a) ⊎ (a + 4 ≤ c)
      side_0 = ⊎_elim (λ (l : c + 4 ≤ a). inl (omega arith)) (λ (r : a + 4 ≤ c). inr (omega arith)) apart

  module _ (inside : a + 4 ≤ length memory) where
    l1 : length m1 ≡ length memory
    l1 = length-set memory a b0

    l2 : length m2 ≡ length memory
    l2 = length-set m1 (a + 1) b1 ∙ l1

    l3 : length m3 ≡ length memory
    l3 = length-set m2 (a + 1 + 1) b2 ∙ l2

    byte_0 : get_or four a 0 ≡ b0
    byte_0 =
        get_or-set_other m3 (a + 1 + 1 + 1) a b3 0 (λ e. omega arith)
        ∙ get_or-set_other m2 (a + 1 + 1) a b2 0 (λ e. omega arith)
        ∙ get_or-set_other m1 (a + 1) a b1 0 (λ e. omega arith)
        ∙ get_or-set_same memory a b0 0 (omega arith)

    byte_1 : get_or four (a + 1) 0 ≡ b1
    byte_1 =
        get_or-set_other m3 (a + 1 + 1 + 1) (a + 1) b3 0 (λ e. omega arith)
        ∙ get_or-set_other m2 (a + 1 + 1) (a + 1) b2 0 (λ e. omega arith)
        ∙ get_or-set_same m1 (a + 1) b1 0 (omega (arith, l1))

    byte_2 : get_or four (a + 2) 0 ≡ b2
    byte_2 =
        let two : a + 2 ≡ a + 1 + 1 = omega arith in
        ap (λ i. get_or four i 0) two
        ∙ get_or-set_other m3 (a + 1 + 1 + 1) (a + 1 + 1) b3 0 (λ e. omega arith)
        ∙ get_or-set_same m2 (a + 1 + 1) b2 0 (omega (arith, l2))

    byte_3 : get_or four (a + 3) 0 ≡ b3
    byte_3 =
        let three : a + 3 ≡ a + 1 + 1 + 1 = omega arith in
        ap (λ i. get_or four i 0) three
        ∙ get_or-set_same m3 (a + 1 + 1 + 1) b3 0 (omega (arith, l3))

    pub word_four : word_at four a ≡ from_be_bytes w32 (b0 ∷ b1 ∷ b2 ∷ b3 ∷ [])
    word_four = rw (byte_0, byte_1, byte_2, byte_3) refl

-- a word that was stored is read, and no other word is changed
pub word_stored : (memory : List ℕ) (a x : ℕ) → a + 4 ≤ length memory → x < 2 ^ 32
    → word_at (stored memory a (to_be_bytes w32 x)) a ≡ x
word_stored memory a x inside word = word_four memory a _ _ _ _ inside ∙ from_be_bytes-to_be_bytes_4 x word

pub word_kept : (memory : List ℕ) (a x c : ℕ) → (c + 4 ≤ a) ⊎ (a + 4 ≤ c)
    → word_at (stored memory a (to_be_bytes w32 x)) c ≡ word_at memory c
word_kept memory a x c apart = word_other memory a _ _ _ _ c apart

-- the same of words by their numbers
pub word_apart : (memory : List ℕ) (v x u : ℕ) → (u ≡ v → ⊥)
    → word_at (stored memory (4 * v) (to_be_bytes w32 x)) (4 * u) ≡ word_at memory (4 * u)
word_apart memory v x u ne = word_kept memory (4 * v) x (4 * u) (side (cases_lt u v))
  where
    side : (u < v) ⊎ (v ≤ u) → (4 * u + 4 ≤ 4 * v) ⊎ (4 * v + 4 ≤ 4 * u)
    side (inl h) = inl (omega arith)
    side (inr h) = let apart : v + 1 ≤ u = omega (arith, ne) in inr (omega arith)
