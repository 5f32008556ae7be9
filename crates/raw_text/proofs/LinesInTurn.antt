-- The lines of a text, one after the other.
use Rattle.std.proofs.Common.{◌≡◌, ℕ, ◌+◌, ◌-◌, ◌<◌, ◌≤◌, Bool, false, cond, List, [], ◌∷◌, ◌++◌, length, take, drop, map, Option, Some, None, refl, sym, ap, subst, ◌∙◌, ⊎_elim, add_assoc, arith, length-drop}
use Rattle.std.specs.Prelude.{slice_range, nat_le, ◌==◌}
use Rattle.std.specs.List.{position_or_len, list_all, slice_split, onto_first, before_first, after_first}
use Rattle.std.proofs.lemmas.Bool.{cases_lt, cases_Bool}
use Rattle.std.proofs.lemmas.Bool.Decides.{nat_tests}
use Rattle.std.proofs.lemmas.List.{drop-drop, take_rest, take_all, drop_all, map_push}
use Rattle.std.proofs.lemmas.List.Splits.{slice_split_first, slice_split_none, slice_split-cons_yes, slice_split-cons_no}
use Rattle.std.proofs.Math.Seq.{take-add}
use Rattle.raw_text.specs.declared.lines.TextRefusal.{TextRefusal}
use Rattle.raw_text.specs.declared.lines.TextRefusal.TheVariants.{NotAscii, LineTooLong, Memory}
use Rattle.raw_text.specs.Lines.{lines_of, without_empty_last, is_newline, is_plain, line_fault, first_fault, IsCause, IsPlain}
use Rattle.raw_text.specs.declared.limits.TheConstants.{MAX_LINE}
use Rattle.raw_text.proofs.Runs.{none_before}

-- there is a first part
onto_first_some : (x : ℕ) (parts : List (List ℕ)) → (first : List ℕ) × (more : List (List ℕ)) × (onto_first x parts ≡ first ∷ more)
onto_first_some x [] = (x ∷ [], [], refl)
onto_first_some x (part ∷ parts) = (x ∷ part, parts, refl)

split_some : (p : ℕ → Bool) (xs : List ℕ) → (first : List ℕ) × (more : List (List ℕ)) × (slice_split p xs ≡ first ∷ more)
split_some p [] = ([], [], refl)
split_some p (x ∷ xs) =
    ⊎_elim
    (λ yes. ([], slice_split p xs, slice_split-cons_yes p x xs yes))
    (λ no. let o = onto_first_some x (slice_split p xs) in (o.0, o.1, slice_split-cons_no p x xs no ∙ o.2))
    (cases_Bool (p x))

pub kept_first : (line : List ℕ) (p : ℕ → Bool) (rest : List ℕ) → without_empty_last (line ∷ slice_split p rest) ≡ line ∷ without_empty_last (slice_split p rest)
kept_first line p rest = let s = split_some p rest in rw s.2 refl

not_empty : (line : List ℕ) → 0 < length line → without_empty_last (line ∷ []) ≡ line ∷ []
not_empty line some = let e : (length line == 0) ≡ false = grind (arith, nat_tests) in rw e refl

-- the lines of what isn't empty: the first, and those after the newline
pub lines_step : (xs : List ℕ) → 0 < length xs → lines_of xs ≡ before_first is_newline xs ∷ lines_of (after_first is_newline xs)
unfolding lines_of
lines_step xs some =
    ⊎_elim
    (λ (cut : position_or_len is_newline xs < length xs). rw (slice_split_first is_newline xs 0 cut) (kept_first (before_first is_newline xs) is_newline (after_first is_newline xs)))
    (λ (past : length xs ≤ position_or_len is_newline xs).
    let whole : before_first is_newline xs ≡ xs = take_all (position_or_len is_newline xs) xs past in
    let rest : after_first is_newline xs ≡ [] = drop_all (position_or_len is_newline xs + 1) xs (omega arith) in
    rw (whole, rest, slice_split_none is_newline xs (none_before is_newline xs past)) (not_empty xs some))
    (cases_lt (position_or_len is_newline xs) (length xs))

pub lines_none : lines_of [] ≡ []
unfolding lines_of
lines_none = refl

-- one more element
pub drop_next : {X : Type 0} (xs ys : List X) (k : ℕ) (y : X) → drop k xs ≡ y ∷ ys → drop (k + 1) xs ≡ ys
drop_next xs ys k y e = sym (drop-drop 1 k xs) ∙ ap (drop 1) e

pub take_next : {X : Type 0} (xs ys : List X) (k : ℕ) (y : X) → drop k xs ≡ y ∷ ys → take (k + 1) xs ≡ take k xs ++ y ∷ []
take_next xs ys k y e = take-add k 1 xs ∙ ap (λ r. take k xs ++ take 1 r) e

-- the line that begins at a place, and those after it
pub line_at : (bytes : List ℕ) (all : List (List ℕ)) (k at n : ℕ) → at < length bytes → n ≡ position_or_len is_newline (slice_range bytes at (length bytes))
    → drop k all ≡ lines_of (drop at bytes) → drop k all ≡ slice_range bytes at (at + n) ∷ lines_of (drop (at + n + 1) bytes)
line_at bytes all k at n lt is_n e =
    let rest = drop at bytes in
    let here : n ≡ position_or_len is_newline rest = is_n ∙ ap (position_or_len is_newline) (take_rest bytes at) in
    let some : 0 < length rest = omega (arith, length-drop at bytes) in
    let w : at + n - at ≡ n = omega arith in
    let first : before_first is_newline rest ≡ slice_range bytes at (at + n) = rw (← here, w) refl in
    let more : after_first is_newline rest ≡ drop (at + n + 1) bytes = rw (← here, drop-drop (n + 1) at bytes, add_assoc at n 1) refl in
    e ∙ lines_step rest some ∙ rw (first, more) refl

pub fault_is_cause : (fault : TextRefusal) (found : Option TextRefusal) → found ≡ Some fault → IsCause fault found
fault_is_cause Memory found e = tt
fault_is_cause _ found e = e

pub fault_here : (number : ℕ) (line : List ℕ) (lines : List (List ℕ)) (fault : TextRefusal) → line_fault number line ≡ Some fault → first_fault number (line ∷ lines) ≡ Some fault
fault_here number line lines fault e = rw e refl

pub fault_later : (number : ℕ) (line : List ℕ) (lines : List (List ℕ)) → line_fault number line ≡ None → first_fault number (line ∷ lines) ≡ first_fault (number + 1) lines
fault_later number line lines e = rw e refl

differs : (fault : TextRefusal) → Some fault ≡ None → ⊥
differs fault e = grind (arith, e)

pub plain_where_faultless : (number : ℕ) (line : List ℕ) → line_fault number line ≡ None → IsPlain line
plain_where_faultless number line none =
    ⊎_elim {C = IsPlain line}
    (λ yes. yes)
    (λ (no : list_all is_plain line ≡ false). absurd (differs (NotAscii number) (subst (λ b. cond b (cond (nat_le (length line) MAX_LINE) None (Some (LineTooLong number))) (Some (NotAscii number)) ≡ None) no none)))
    (cases_Bool (list_all is_plain line))

pub tokens_next : {X Y Z : Type 0} (f : X → Z) (g : Y → Z) (old new : List X) (x : X) (all ys : List Y) (k : ℕ) (y : Y) → new ≡ old ++ x ∷ [] → length new ≡ k + 1
    → map f old ≡ map g (take k all) → drop k all ≡ y ∷ ys → f x ≡ g y → map f new ≡ map g (take (length new) all)
tokens_next f g old new x all ys k y is_new count so_far here same =
    ap (map f) is_new ∙ map_push f old x ∙ rw (count, take_next all ys k y here, map_push, so_far, same) refl

-- at the end of the bytes no line is left
pub none_left : (bytes : List ℕ) (all : List (List ℕ)) (k at : ℕ) → length bytes ≤ at → drop k all ≡ lines_of (drop at bytes) → drop k all ≡ []
none_left bytes all k at le e = e ∙ ap lines_of (drop_all at bytes le) ∙ lines_none

pub take_whole : {X : Type 0} (xs : List X) (k : ℕ) → drop k xs ≡ [] → take k xs ≡ xs
take_whole xs k e = take_all k xs (omega (arith, ap length e, length-drop k xs))
