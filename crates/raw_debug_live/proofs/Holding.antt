-- A line of which one byte more is held than it may have means what the whole line means.
use Rattle.std.proofs.Common.{◌≡◌, ℕ, zero, suc, ◌<◌, ◌≤◌, Bool, true, false, List, [], ◌∷◌, ◌++◌, length, take, refl, sym, ap, ◌∙◌, ⊎_elim, arith, take_all, length-take, length-append}
use Rattle.std.specs.Prelude.{nat_le, Some, None, if◌then◌else◌}
use Rattle.std.specs.List.{list_all}
use Rattle.std.proofs.lemmas.Bool.{cases_lt, lt-leb}
use Rattle.raw_text.specs.Lines.{is_plain, tokens_of}
use Rattle.raw_text.specs.declared.limits.TheConstants.{MAX_LINE}
use Rattle.raw_text.specs.declared.lines.TextRefusal.TheVariants.{NotAscii, LineTooLong}
use Rattle.raw_model.specs.Program.{ProgramSet}
use Rattle.raw_debug.specs.Commands.{LabelPlaces, meaning_of}
use Rattle.raw_debug.specs.Commands.Meaning.{Outside}
use Rattle.raw_debug.specs.Script.{Spot}
use Rattle.raw_debug.specs.Live.{unless_faulty, line_meaning, answer_to, spot_behind, line_answer, line_spot}
use Rattle.raw_debug_live.specs.declared.line.TheConstants.{HELD}
use Rattle.raw_debug_live.specs.Bytes.{held}

-- a line with too many bytes is outside the grammar
long_outside : (labels : LabelPlaces) (set : ProgramSet) (p : ℕ) (line : List ℕ) → MAX_LINE < length line → line_meaning labels set p line ≡ Outside
long_outside labels set p line long = by_test (list_all is_plain line) ∙ refl
  where
    by_test : (b : Bool) → unless_faulty (if b then (if nat_le (length line) MAX_LINE then None else Some (LineTooLong 1)) else Some (NotAscii 1)) (meaning_of labels set p (tokens_of line)) ≡ Outside
    by_test true = rw (lt-leb (length line) MAX_LINE long) refl
    by_test false = refl

pub same_meaning : (labels : LabelPlaces) (set : ProgramSet) (p : ℕ) (line : List ℕ) → line_meaning labels set p (held line) ≡ line_meaning labels set p line
same_meaning labels set p line =
    ⊎_elim
    (λ (long : HELD < length line).
    let size = length-take HELD line in
    long_outside labels set p (held line) (omega (arith, long, size)) ∙ sym (long_outside labels set p line (omega (arith, long))))
    (λ (short : length line ≤ HELD). ap (line_meaning labels set p) (take_all HELD line short))
    (cases_lt HELD (length line))

pub same_answer : (labels : LabelPlaces) (set : ProgramSet) (spot : Spot) (line : List ℕ) → line_answer labels set spot (held line) ≡ line_answer labels set spot line
same_answer labels set spot line = ap (answer_to set spot) (same_meaning labels set spot.current.0 line)

pub same_spot : (labels : LabelPlaces) (set : ProgramSet) (spot : Spot) (line : List ℕ) → line_spot labels set spot (held line) ≡ line_spot labels set spot line
same_spot labels set spot line = ap (spot_behind set spot) (same_meaning labels set spot.current.0 line)

-- a byte more, where there is room for it, and where there is none
pub one_more_held : (held_now more line : List ℕ) (next : ℕ) → length held_now < HELD → held_now ≡ held line → more ≡ held_now ++ next ∷ []
    → more ≡ held (line ++ next ∷ [])
one_more_held held_now more line next room is more_is =
    let size = length-take HELD line in
    let lengths = ap length is in
    let short : length line < HELD = omega (arith, size, lengths, room) in
    let whole : held line ≡ line = take_all HELD line (omega (arith, short)) in
    let parts = length-append line (next ∷ []) in
    more_is ∙ ap (λ xs. xs ++ next ∷ []) (is ∙ whole) ∙ sym (take_all HELD (line ++ next ∷ []) (omega (arith, parts, short)))

take_front : (n : ℕ) (xs ys : List ℕ) → n ≤ length xs → take n (xs ++ ys) ≡ take n xs
take_front zero xs ys le = refl
take_front (suc n) [] ys le = absurd (omega (arith, le))
take_front (suc n) (x ∷ xs) ys le = ap (λ l. x ∷ l) (take_front n xs ys (omega (arith, le)))

pub no_more_held : (held_now line : List ℕ) (next : ℕ) → HELD ≤ length held_now → held_now ≡ held line → held_now ≡ held (line ++ next ∷ [])
no_more_held held_now line next full is =
    let size = length-take HELD line in
    let lengths = ap length is in
    is ∙ sym (take_front HELD line (next ∷ []) (omega (arith, size, lengths, full)))
