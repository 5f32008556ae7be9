-- Lines that are written are cut again.
use Rattle.std.proofs.Common.{◌≡◌, ℕ, ◌+◌, ◌*◌, ◌≤◌, Bool, true, false, not, List, [], ◌∷◌, ◌++◌, length, None, refl, sym, ap, ◌∙◌, arith, append_assoc, length-append}
use Rattle.std.specs.Prelude.{codes}
use Rattle.std.specs.List.{list_all, flat_map, All, AllByRecursion}
use Rattle.std.proofs.lemmas.Bool.{le-leb}
use Rattle.std.proofs.lemmas.Bool.Decides.{nat_tests}
use Rattle.std.proofs.lemmas.List.Folds.{list_all-append}
use Rattle.std.proofs.lemmas.List.Sums.{AllPass-from_list_all}
use Rattle.std.proofs.lemmas.List.Splits.{slice_split_at}
use Rattle.raw_text.specs.declared.limits.TheConstants.{MAX_LINE}
use Rattle.raw_text.specs.Lines.{lines_of, first_fault, is_newline, is_plain, IsPlain, IsLine, written_lines}
use Rattle.raw_text.proofs.LinesInTurn.{kept_first, lines_none}
use Rattle.raw_text.proofs.Numbers.{both}

not_true : (b : Bool) → not b ≡ true → b ≡ false
not_true true e = sym e
not_true false e = refl

-- what passes a test passes one that it implies
pub implied : (p q : ℕ → Bool) → ((b : ℕ) → p b ≡ true → q b ≡ true) → (xs : List ℕ) → list_all p xs ≡ true → list_all q xs ≡ true
implied p q h [] all = refl
implied p q h (x ∷ xs) all = let parts = both (p x) (list_all p xs) all in rw (h x parts.0, implied p q h xs parts.1) refl

-- lists that pass a test pass it together
pub all_append : (p : ℕ → Bool) (xs ys : List ℕ) → list_all p xs ≡ true → list_all p ys ≡ true → list_all p (xs ++ ys) ≡ true
all_append p xs ys h k = list_all-append p xs ys ∙ rw (h, k) refl

-- where each element fails
pub all_fail : (p : ℕ → Bool) (xs : List ℕ) → list_all (λ b. not (p b)) xs ≡ true → All (λ b. p b ≡ false) xs
all_fail p xs all = λ k d lt. not_true _ (AllPass-from_list_all (λ b. not (p b)) xs all k d lt)

-- a line, and those after it
pub line_next : (line rest : List ℕ) → list_all (λ b. not (is_newline b)) line ≡ true → lines_of (line ++ 10 ∷ rest) ≡ line ∷ lines_of rest
unfolding lines_of
line_next line rest free = rw (slice_split_at is_newline line 10 rest (all_fail is_newline line free) refl) (kept_first line is_newline rest)

plain_is_no_newline : (b : ℕ) → is_plain b ≡ true → not (is_newline b) ≡ true
plain_is_no_newline b h = grind (arith, nat_tests)

pub plain_line : (line : List ℕ) → IsPlain line → list_all (λ b. not (is_newline b)) line ≡ true
plain_line line plain = implied is_plain (λ b. not (is_newline b)) plain_is_no_newline line plain

pub plain_append : (front back : List ℕ) → IsPlain front → IsPlain back → IsPlain (front ++ back)
plain_append front back f b = all_append is_plain front back f b

pub lines_back : (lines : List (List ℕ)) → AllByRecursion IsPlain lines → lines_of (written_lines lines) ≡ lines
unfolding written_lines
lines_back [] all = lines_none
lines_back (line ∷ lines) all =
    rw (append_assoc line (10 ∷ []) (flat_map (λ l. l ++ 10 ∷ []) lines))
    (line_next line (flat_map (λ l. l ++ 10 ∷ []) lines) (plain_line line all.0) ∙ ap (λ more. line ∷ more) (lines_back lines all.1))

pub no_fault : (number : ℕ) (lines : List (List ℕ)) → AllByRecursion IsLine lines → first_fault number lines ≡ None
no_fault number [] all = refl
no_fault number (line ∷ lines) all = rw (all.0.plain, le-leb (length line) MAX_LINE all.0.short) (no_fault (number + 1) lines all.1)

pub plain_lines : (lines : List (List ℕ)) → AllByRecursion IsLine lines → AllByRecursion IsPlain lines
plain_lines [] all = tt
plain_lines (line ∷ lines) all = (all.0.plain, plain_lines lines all.1)

pub written_length : (lines : List (List ℕ)) → AllByRecursion IsLine lines → length (written_lines lines) ≤ (MAX_LINE + 1) * length lines
unfolding written_lines
written_length [] all = omega arith
written_length (line ∷ lines) all =
    omega (arith, length-append (line ++ 10 ∷ []) (flat_map (λ l. l ++ 10 ∷ []) lines), length-append line (10 ∷ []), all.0.short, written_length lines all.1)

pub written_append : (front back : List (List ℕ)) → written_lines (front ++ back) ≡ written_lines front ++ written_lines back
unfolding written_lines
written_append [] back = refl
written_append (line ∷ front) back =
    let write = flat_map (λ l. l ++ 10 ∷ []) in
    ap (λ more. (line ++ 10 ∷ []) ++ more) (written_append front back) ∙ sym (append_assoc (line ++ 10 ∷ []) (write front) (write back))

pub written_worked : written_lines (codes "a b" ∷ [] ∷ codes "c" ∷ []) ≡ codes "a b" ++ 10 ∷ 10 ∷ codes "c" ++ 10 ∷ []
unfolding written_lines
written_worked = refl
