-- The lines of bytes that stand behind lines that are written.
use Rattle.std.proofs.Common.{◌≡◌, ℕ, ◌+◌, ◌<◌, Bool, true, false, List, [], ◌∷◌, ◌++◌, length, Option, None, Some, refl, sym, ap, ◌∙◌, arith, append_assoc}
use Rattle.std.specs.Prelude.{cond, nat_le, if◌then◌else◌}
use Rattle.std.specs.Option.{option_or}
use Rattle.std.specs.List.{list_all, flat_map, slice_split, onto_first}
use Rattle.std.proofs.lemmas.List.Splits.{length-slice_split, slice_split-cons_yes}
use Rattle.raw_text.specs.declared.limits.TheConstants.{MAX_LINE}
use Rattle.raw_text.specs.declared.lines.TextRefusal.TheVariants.{NotAscii, LineTooLong}
use Rattle.raw_text.specs.Lines.{lines_of, first_fault, line_fault, is_newline, is_plain, without_empty_last, written_lines}
use Rattle.raw_text.proofs.LinesInTurn.{lines_none}

-- ---- pieces

onto_join : {X : Type 0} (x : X) (a b : List (List X)) → 0 < length a → onto_first x (a ++ b) ≡ onto_first x a ++ b
onto_join x [] b some = absurd (omega (arith, some))
onto_join x (part ∷ parts) b some = refl

-- what is cut stands in two parts around an element at which it is cut
pub split_join : {X : Type 0} (p : X → Bool) (xs : List X) (y : X) (more : List X) → p y ≡ true → slice_split p (xs ++ y ∷ more) ≡ slice_split p xs ++ slice_split p more
split_join p [] y more cuts = slice_split-cons_yes p y more cuts
split_join p (x ∷ xs) y more cuts = by (p x) (split_join p xs y more cuts)
  where
    by : (b : Bool) → slice_split p (xs ++ y ∷ more) ≡ slice_split p xs ++ slice_split p more
        → cond b ([] ∷ slice_split p (xs ++ y ∷ more)) (onto_first x (slice_split p (xs ++ y ∷ more)))
        ≡ cond b ([] ∷ slice_split p xs) (onto_first x (slice_split p xs)) ++ slice_split p more
    by true next = ap (λ parts. [] ∷ parts) next
    by false next = ap (onto_first x) next ∙ onto_join x (slice_split p xs) (slice_split p more) (omega (arith, length-slice_split p xs))

-- the last of some pieces is the last of those behind them
last_join : (a b : List (List ℕ)) → 0 < length b → without_empty_last (a ++ b) ≡ a ++ without_empty_last b
last_join [] b some = refl
last_join (piece ∷ []) [] some = absurd (omega (arith, some))
last_join (piece ∷ []) (next ∷ more) some = refl
last_join (piece ∷ next ∷ a) b some = ap (λ parts. piece ∷ parts) (last_join (next ∷ a) b some)

-- ---- lines

-- the lines of bytes behind a newline
behind_newline : (front back : List ℕ) → lines_of (front ++ 10 ∷ back) ≡ slice_split is_newline front ++ lines_of back
unfolding lines_of
behind_newline front back =
    ap without_empty_last (split_join is_newline front 10 back refl)
    ∙ last_join (slice_split is_newline front) (slice_split is_newline back) (omega (arith, length-slice_split is_newline back))

-- the lines of bytes behind lines that are written
pub lines_join : (lines : List (List ℕ)) (back : List ℕ) → lines_of (written_lines lines ++ back) ≡ lines_of (written_lines lines) ++ lines_of back
unfolding written_lines
lines_join [] back = rw lines_none refl
lines_join (line ∷ lines) back =
    let write = flat_map (λ (l : List ℕ). l ++ 10 ∷ []) lines in
    ap (λ bytes. lines_of (bytes ++ back)) (append_assoc line (10 ∷ []) write)
    ∙ ap lines_of (append_assoc line (10 ∷ write) back)
    ∙ behind_newline line (write ++ back)
    ∙ ap (λ more. slice_split is_newline line ++ more) (lines_join lines back)
    ∙ sym (append_assoc (slice_split is_newline line) (lines_of write) (lines_of back))
    ∙ ap (λ front. front ++ lines_of back) (sym (behind_newline line write) ∙ ap lines_of (sym (append_assoc line (10 ∷ []) write)))

-- ---- faults of lines

two_none : {X : Type 0} (a b : Option X) → option_or a b ≡ None → (a ≡ None) × (b ≡ None)
two_none None b none = (refl, none)
two_none (Some x) b none = absurd (cc none)

either_none : (plain short : Bool) (m n : ℕ) → (if plain then (if short then None else Some (LineTooLong m)) else Some (NotAscii m)) ≡ None
    → (if plain then (if short then None else Some (LineTooLong n)) else Some (NotAscii n)) ≡ None
either_none true true m n none = refl
either_none true false m n none = absurd (cc none)
either_none false short m n none = absurd (cc none)

-- lines without a fault have none, however they are numbered
any_number : (m n : ℕ) (lines : List (List ℕ)) → first_fault m lines ≡ None → first_fault n lines ≡ None
any_number m n [] none = refl
any_number m n (line ∷ lines) none =
    let parts = two_none (line_fault m line) (first_fault (m + 1) lines) none in
    rw (either_none (list_all is_plain line) (nat_le (length line) MAX_LINE) m n parts.0) (any_number (m + 1) (n + 1) lines parts.1)

pub faultless_join : (m n : ℕ) (front back : List (List ℕ)) → first_fault m front ≡ None → first_fault n back ≡ None → first_fault m (front ++ back) ≡ None
faultless_join m n [] back one two = any_number n m back two
faultless_join m n (line ∷ front) back one two =
    let parts = two_none (line_fault m line) (first_fault (m + 1) front) one in
    rw parts.0 (faultless_join (m + 1) n front back parts.1 two)
