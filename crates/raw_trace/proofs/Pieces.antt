-- Lists that are cut into pieces are joined of them again.
use Rattle.std.proofs.Common.{◌≡◌, ℕ, zero, suc, ◌+◌, ◌-◌, ◌<◌, ◌≤◌, Bool, true, false, cond, List, [], ◌∷◌, ◌++◌, length, replicate, refl, sym, ap, ◌∙◌, subst, arith, append_assoc, append-nil, get_or, Some}
use Rattle.std.specs.Prelude.{slice_get, slice_set}
use Rattle.std.specs.List.{filter, flat_map, fold, range_with_len, scan}
use Rattle.std.proofs.lemmas.List.{replicate-append-replicate, length-append, length-replicate}
use Rattle.std.proofs.lemmas.List.Sums.{fold-append}
use Rattle.std.proofs.lemmas.Option.{same_Some}
use Rattle.raw_trace.specs.Reading.{last_word}
use Rattle.raw_trace.specs.Whole.{one_more, pieces, spread, AreLongest, distances, sums}

module _ {X : Type 0} (same : X → X → Bool) where
  module _ (exact : (a b : X) → same a b ≡ true → a ≡ b) where
    -- one element more
    spread_more : (ps : List (X × ℕ)) (x : X) → spread (one_more same ps x) ≡ spread ps ++ x ∷ []
    spread_more [] x = refl
    spread_more (piece ∷ []) x = by_test (same piece.0 x) refl
      where
        by_test : (b : Bool) → same piece.0 x ≡ b
            → spread (cond b ((piece.0, piece.1 + 1) ∷ []) (piece ∷ (x, 1) ∷ [])) ≡ (replicate piece.1 piece.0 ++ []) ++ x ∷ []
        by_test true is =
            append-nil (replicate (piece.1 + 1) piece.0)
            ∙ sym (replicate-append-replicate piece.1 1 piece.0)
            ∙ ap (λ y. replicate piece.1 piece.0 ++ y ∷ []) (exact piece.0 x is)
            ∙ ap (λ ys. ys ++ x ∷ []) (sym (append-nil (replicate piece.1 piece.0)))
        by_test false is = ap (λ ys. ys ++ x ∷ []) (sym (append-nil (replicate piece.1 piece.0)))
    spread_more (piece ∷ next ∷ ps) x =
        ap (λ ys. replicate piece.1 piece.0 ++ ys) (spread_more (next ∷ ps) x) ∙ sym (append_assoc (replicate piece.1 piece.0) (spread (next ∷ ps)) (x ∷ []))

    spread_all : (ps : List (X × ℕ)) (xs : List X) → spread (fold (one_more same) ps xs) ≡ spread ps ++ xs
    spread_all ps [] = sym (append-nil (spread ps))
    spread_all ps (x ∷ xs) =
        spread_all (one_more same ps x) xs ∙ ap (λ ys. ys ++ xs) (spread_more ps x) ∙ append_assoc (spread ps) (x ∷ []) xs

    pub spread_pieces : (xs : List X) → spread (pieces same xs) ≡ xs
    spread_pieces xs = spread_all [] xs

  -- pieces are the longest
  longest_onto : (piece next : X × ℕ) (ps : List (X × ℕ)) (x : X) → 0 < piece.1 → same piece.0 next.0 ≡ false
      → AreLongest same (one_more same (next ∷ ps) x) → AreLongest same (piece ∷ one_more same (next ∷ ps) x)
  longest_onto piece next [] x some differ rest = by_test (same next.0 x) rest
    where
      by_test : (b : Bool) → AreLongest same (cond b ((next.0, next.1 + 1) ∷ []) (next ∷ (x, 1) ∷ []))
          → AreLongest same (piece ∷ cond b ((next.0, next.1 + 1) ∷ []) (next ∷ (x, 1) ∷ []))
      by_test true rest = (some, differ, rest)
      by_test false rest = (some, differ, rest)
  longest_onto piece next (one ∷ ps) x some differ rest = (some, differ, rest)

  longest_more : (ps : List (X × ℕ)) (x : X) → AreLongest same ps → AreLongest same (one_more same ps x)
  longest_more [] x are = omega arith
  longest_more (piece ∷ []) x are = by_test (same piece.0 x) refl
    where
      by_test : (b : Bool) → same piece.0 x ≡ b → AreLongest same (cond b ((piece.0, piece.1 + 1) ∷ []) (piece ∷ (x, 1) ∷ []))
      by_test true is = omega arith
      by_test false is = (are, is, omega arith)
  longest_more (piece ∷ next ∷ ps) x are = longest_onto piece next ps x are.0 are.1 (longest_more (next ∷ ps) x are.2)

  longest_all : (ps : List (X × ℕ)) (xs : List X) → AreLongest same ps → AreLongest same (fold (one_more same) ps xs)
  longest_all ps [] are = are
  longest_all ps (x ∷ xs) are = longest_all (one_more same ps x) xs (longest_more ps x are)

  pub longest_pieces : (xs : List X) → AreLongest same (pieces same xs)
  longest_pieces xs = longest_all [] xs tt

  -- of one piece
  one_grown : (p piece : X × ℕ) (x : X) → p ≡ piece → same piece.0 x ≡ true → one_more same (p ∷ []) x ≡ (piece.0, piece.1 + 1) ∷ []
  one_grown p piece x e is = ap (λ q. one_more same (q ∷ []) x) e ∙ ap (λ b. cond b ((piece.0, piece.1 + 1) ∷ []) (piece ∷ (x, 1) ∷ [])) is

  one_begun : (p piece : X × ℕ) (x : X) → p ≡ piece → same piece.0 x ≡ false → one_more same (p ∷ []) x ≡ p ∷ (x, 1) ∷ []
  one_begun p piece x e is =
      ap (λ q. one_more same (q ∷ []) x) e
      ∙ ap (λ b. cond b ((piece.0, piece.1 + 1) ∷ []) (piece ∷ (x, 1) ∷ [])) is
      ∙ ap (λ q. q ∷ (x, 1) ∷ []) (sym e)

  -- by the number of pieces: the last one grows, or one stands behind it
  pub grown : (ps : List (X × ℕ)) (n : ℕ) (piece : X × ℕ) (x : X) → length ps ≡ suc n → slice_get ps n ≡ Some piece → same piece.0 x ≡ true
      → one_more same ps x ≡ slice_set ps n (piece.0, piece.1 + 1)
  grown [] n piece x many here is = absurd (cc here)
  grown (p ∷ []) zero piece x many here is = one_grown p piece x (same_Some p piece here) is
  grown (p ∷ []) (suc n) piece x many here is = absurd (cc here)
  grown (p ∷ q ∷ ps) zero piece x many here is = absurd (omega (arith, many))
  grown (p ∷ q ∷ ps) (suc n) piece x many here is = ap (λ qs. p ∷ qs) (grown (q ∷ ps) n piece x (omega (arith, many)) here is)

  pub begun : (ps : List (X × ℕ)) (n : ℕ) (piece : X × ℕ) (x : X) → length ps ≡ suc n → slice_get ps n ≡ Some piece → same piece.0 x ≡ false
      → one_more same ps x ≡ ps ++ (x, 1) ∷ []
  begun [] n piece x many here is = absurd (cc here)
  begun (p ∷ []) zero piece x many here is = one_begun p piece x (same_Some p piece here) is
  begun (p ∷ []) (suc n) piece x many here is = absurd (cc here)
  begun (p ∷ q ∷ ps) zero piece x many here is = absurd (omega (arith, many))
  begun (p ∷ q ∷ ps) (suc n) piece x many here is = ap (λ qs. p ∷ qs) (begun (q ∷ ps) n piece x (omega (arith, many)) here is)

  pub none_yet : (ps : List (X × ℕ)) (x : X) → length ps ≡ 0 → one_more same ps x ≡ ps ++ (x, 1) ∷ []
  none_yet [] x none = refl
  none_yet (p ∷ ps) x none = absurd (omega (arith, none))

  -- one element more of a list
  pub pieces_push : (xs : List X) (x : X) → pieces same (xs ++ x ∷ []) ≡ one_more same (pieces same xs) x
  pieces_push xs x = fold-append (one_more same) [] xs (x ∷ [])

-- a piece is no longer than the list
pub few_times : {X : Type 0} (ps : List (X × ℕ)) (i : ℕ) (x : X) → (get_or ps i (x, 0)).1 ≤ length (spread ps)
few_times [] i x = omega arith
few_times (p ∷ ps) zero x =
    let whole = length-append (replicate p.1 p.0) (spread ps) in
    let own = length-replicate p.1 p.0 in
    omega (arith, whole, own)
few_times (p ∷ ps) (suc i) x =
    let whole = length-append (replicate p.1 p.0) (spread ps) in
    let later = few_times ps i x in
    omega (arith, whole, later)

-- rising numbers are the sums of their distances
abbrev sums_from : ℕ → List ℕ → List ℕ
sums_from b ds = scan (λ before d. before + d) (λ before d. before + d) b ds

abbrev distances_from : ℕ → List ℕ → List ℕ
distances_from b ks = scan (λ before k. k) (λ before k. k - before) b ks

one_summed : (a b : ℕ) (rest : List ℕ) → b ≤ a → sums_from a (distances_from a rest) ≡ rest → sums_from b (distances_from b (a ∷ rest)) ≡ a ∷ rest
one_summed a b rest le are = let same : b + (a - b) ≡ a = omega (arith, le) in ap (λ c. c ∷ sums_from c (distances_from a rest)) same ∙ ap (λ xs. a ∷ xs) are

maybe_summed : (t : Bool) (a b : ℕ) (rest : List ℕ) → b ≤ a → ((c : ℕ) → c ≤ a + 1 → sums_from c (distances_from c rest) ≡ rest)
    → sums_from b (distances_from b (cond t (a ∷ rest) rest)) ≡ cond t (a ∷ rest) rest
maybe_summed true a b rest le are = one_summed a b rest le (are a (omega arith))
maybe_summed false a b rest le are = are b (omega (arith, le))

summed : (f : ℕ → Bool) (a n b : ℕ) → b ≤ a → sums_from b (distances_from b (filter f (range_with_len a n))) ≡ filter f (range_with_len a n)
summed f a zero b le = refl
summed f a (suc n) b le = maybe_summed (f a) a b (filter f (range_with_len (a + 1) n)) le (λ c below. summed f (a + 1) n c below)

pub sums_of : (f : ℕ → Bool) (n : ℕ) → sums (distances (filter f (range_with_len 0 n))) ≡ filter f (range_with_len 0 n)
sums_of f n = summed f 0 n 0 (omega arith)

-- one number more
pub distances_more : (b : ℕ) (ks : List ℕ) (k : ℕ) → distances_from b (ks ++ k ∷ []) ≡ distances_from b ks ++ (k - last_word b ks) ∷ []
distances_more b [] k = refl
distances_more b (j ∷ ks) k = ap (λ ds. (j - b) ∷ ds) (distances_more j ks k)

pub length-distances : (b : ℕ) (ks : List ℕ) → length (distances_from b ks) ≡ length ks
length-distances b [] = refl
length-distances b (k ∷ ks) = ap suc (length-distances k ks)

-- the last of some of the first numbers is below the rest
pub last_below : (f : ℕ → Bool) (a n b : ℕ) → b ≤ a + n → last_word b (filter f (range_with_len a n)) ≤ a + n
last_below f a zero b le = le
last_below f a (suc n) b le =
    let rest : (c : ℕ) → c ≤ (a + 1) + n → last_word c (filter f (range_with_len (a + 1) n)) ≤ a + suc n =
    λ c below. let later = last_below f (a + 1) n c below in omega (arith, later) in
    by_test (f a) rest
  where
    by_test : (t : Bool) → ((c : ℕ) → c ≤ (a + 1) + n → last_word c (filter f (range_with_len (a + 1) n)) ≤ a + suc n)
        → last_word b (cond t (a ∷ filter f (range_with_len (a + 1) n)) (filter f (range_with_len (a + 1) n))) ≤ a + suc n
    by_test true rest = rest a (omega arith)
    by_test false rest = rest b (omega (arith, le))
