-- The inputs of a table: what is carried into a row, and the words of rows, row by row.
use Rattle.std.proofs.Common.{◌≡◌, ℕ, suc, ◌+◌, List, [], ◌∷◌, length, Some, refl, ap, ◌∙◌, subst, arith}
use Rattle.std.specs.Prelude.{slice_get}
use Rattle.std.specs.List.{range_with_len}
use Rattle.raw_stream.proofs.Lists.{get_right}
use Rattle.raw_term.proofs.Terms.{Holds, get_left, same_value}
use Rattle.raw_term.proofs.Image.{Pairs, AlikeWires}
use Rattle.raw_row_terms.proofs.Placing.{pairs_append}
use Rattle.raw_rows.specs.Kernels.{joined, input_rows}

pub pairs_joined : (H : ℕ → ℕ → Type 0) (rows vals : List (List ℕ)) → AlikeWires H rows vals → Pairs H (joined rows) (joined vals)
pairs_joined H [] [] h = tt
pairs_joined H [] (y ∷ vals) h = absurd h
pairs_joined H (x ∷ rows) [] h = absurd h
pairs_joined H (x ∷ rows) (y ∷ vals) h = pairs_append H x y (joined rows) (joined vals) h.0 (pairs_joined H rows vals h.1)

-- the same terms have the same values
pub pairs_same : (values cs xs ys : List ℕ) → Pairs (Holds values) cs xs → Pairs (Holds values) cs ys → xs ≡ ys
pairs_same values [] [] [] h g = refl
pairs_same values [] [] (y ∷ ys) h g = absurd g
pairs_same values [] (x ∷ xs) ys h g = absurd h
pairs_same values (c ∷ cs) [] ys h g = absurd h
pairs_same values (c ∷ cs) (x ∷ xs) [] h g = absurd g
pairs_same values (c ∷ cs) (x ∷ xs) (y ∷ ys) h g = ap (λ z. z ∷ xs) (same_value [] values c x y h.0 g.0) ∙ ap (λ zs. y ∷ zs) (pairs_same values cs xs ys h.1 g.1)

-- so many words in each row
abbrev pub AreWide : ℕ → List (List ℕ) → Type 0
AreWide width rows = (i : ℕ) (words : List ℕ) → slice_get rows i ≡ Some words → length words ≡ width

-- the inputs of a table: what is carried, and the words row by row
pub words_held : (V : List ℕ) (words : List ℕ) (from : ℕ) → ((i x : ℕ) → slice_get words i ≡ Some x → Holds V (from + i) x) → Pairs (Holds V) (range_with_len from (length words)) words
words_held V [] from h = tt
words_held V (x ∷ words) from h = (
  subst (λ j. Holds V j x) (omega arith) (h 0 x refl),
  words_held V words (from + 1) (λ i y e. subst (λ j. Holds V j y) (omega arith) (h (suc i) y e)),
)

pub rows_held : (V : List ℕ) (rows : List (List ℕ)) (width from : ℕ) → AreWide width rows → ((i x : ℕ) → slice_get (joined rows) i ≡ Some x → Holds V (from + i) x) → AlikeWires (Holds V) (input_rows from width (length rows)) rows
rows_held V [] width from wide h = tt
rows_held V (words ∷ rows) width from wide h =
    let long : length words ≡ width = wide 0 words refl in (
      subst (λ n. Pairs (Holds V) (range_with_len from n) words) long (words_held V words from (λ i x e. h i x (get_left words (joined rows) i x e))),
      rows_held V rows width (from + width) (λ i ws f. wide (suc i) ws f)
          (λ i x e. subst (λ j. Holds V j x) (omega (arith, long)) (h (length words + i) x (get_right words (joined rows) i x e))),
    )
