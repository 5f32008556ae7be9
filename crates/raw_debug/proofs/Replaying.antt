-- Answers line by line against the text of a script.
use Rattle.std.proofs.Common.{◌≡◌, ℕ, ◌+◌, ◌≤◌, Bool, true, false, List, [], ◌∷◌, ◌++◌, length, map, cond, Some, None, refl, sym, ap, ap₂, ◌∙◌, subst, arith, append_assoc}
use Rattle.std.specs.Prelude.{if◌then◌else◌}
use Rattle.std.specs.List.{position, position_or_len, AllByRecursion}
use Rattle.std.proofs.lemmas.Bool.{ltb-false}
use Rattle.raw_text.specs.Lines.{tokens_of, line_fault}
use Rattle.raw_model.specs.Program.{ProgramSet}
use Rattle.raw_debug.specs.declared.command.Command.TheVariants.{At}
use Rattle.raw_debug.specs.declared.command.Reading.{Reading}
use Rattle.raw_debug.specs.declared.command.Reading.TheVariants as reading
use Rattle.raw_debug.specs.Commands.{LabelPlaces, Meaning, led_by, meaning_of, meant, readings_from, readings, is_outside, bad_command}
use Rattle.raw_debug.specs.Commands.Meaning.{Blank, Says, Echoes, Outside}
use Rattle.raw_debug.specs.Script.{Spot, first_spot, moved, moved_by, is_past, past_end, script_text_of, line_text, text_from, script_text}
use Rattle.raw_debug.specs.Live.{line_meaning, answer_to, spot_behind, line_answer, line_spot, answers, spot_after}
use Rattle.raw_debug.proofs.Leading.{past_leads_nowhere}
use Rattle.raw_debug.proofs.Following.{moved_current}

-- the answer to a line that is a command and does not go past the end is what it writes
answer_is : (set : ProgramSet) (spot : Spot) (meaning : Meaning) → is_outside meaning ≡ false → is_past set meaning ≡ false
    → answer_to set spot meaning ≡ script_text_of set spot meaning
answer_is set spot Outside inside going = absurd (cc inside)
answer_is set spot Blank inside going = refl
answer_is set spot (Echoes tokens) inside going = refl
answer_is set spot (Says command) inside going = rw going refl

spot_is : (set : ProgramSet) (spot : Spot) (meaning : Meaning) → is_past set meaning ≡ false → spot_behind set spot meaning ≡ moved_by set spot meaning
spot_is set spot meaning going = rw going refl

-- no element passes a test where the first that does stands at the end
none_passes : (test : Meaning → Bool) (x : Meaning) (xs : List Meaning) → length (x ∷ xs) ≤ position_or_len test (x ∷ xs)
    → (test x ≡ false) × (length xs ≤ position_or_len test xs)
none_passes test x xs le = by_test (test x) refl
  where
    by_test : (b : Bool) → test x ≡ b → (test x ≡ false) × (length xs ≤ position_or_len test xs)
    by_test true e = let first : position_or_len test (x ∷ xs) ≡ 0 = rw e refl in absurd (omega (arith, le, first))
    by_test false e = let later : position_or_len test (x ∷ xs) ≡ 1 + position_or_len test xs = rw e refl in (e, omega (arith, le, later))

at_end : (test : Meaning → Bool) (xs : List Meaning) → position test xs ≡ None → length xs ≤ position_or_len test xs
at_end test xs e = ltb-false (position_or_len test xs) (length xs) (by_test _ e)
  where
    by_test : (b : Bool) → cond b (Some (position_or_len test xs)) None ≡ None → b ≡ false
    by_test true f = absurd (cc f)
    by_test false f = refl

replayed : (labels : LabelPlaces) (set : ProgramSet) (spot : Spot) (lines : List (List ℕ)) → AllByRecursion (λ line. line_fault 1 line ≡ None) lines
    → length (readings_from labels set spot.current (map tokens_of lines)) ≤ position_or_len is_outside (readings_from labels set spot.current (map tokens_of lines))
    → length (readings_from labels set spot.current (map tokens_of lines)) ≤ position_or_len (is_past set) (readings_from labels set spot.current (map tokens_of lines))
    → answers labels set spot lines ≡ text_from set spot (readings_from labels set spot.current (map tokens_of lines))
replayed labels set spot [] faultless good goes = refl
replayed labels set spot (line ∷ lines) faultless good goes =
    let meaning = meaning_of labels set spot.current.0 (tokens_of line) in
    let others = readings_from labels set (led_by spot.current meaning) (map tokens_of lines) in
    let inside = none_passes is_outside meaning others good in
    let going = none_passes (is_past set) meaning others goes in
    let behind = moved_by set spot meaning in
    let same : line_meaning labels set spot.current.0 line ≡ meaning = rw faultless.0 refl in
    let current : led_by spot.current meaning ≡ behind.current = sym (moved_current set spot meaning) in
    let rest = replayed labels set behind lines faultless.1
    (subst (λ c. length (readings_from labels set c (map tokens_of lines)) ≤ position_or_len is_outside (readings_from labels set c (map tokens_of lines))) current inside.1)
    (subst (λ c. length (readings_from labels set c (map tokens_of lines)) ≤ position_or_len (is_past set) (readings_from labels set c (map tokens_of lines))) current going.1) in
    ap₂ (λ text s. text ++ answers labels set s lines)
    (ap (answer_to set spot) same ∙ answer_is set spot meaning inside.0 going.0)
    (ap (spot_behind set spot) same ∙ spot_is set spot meaning going.0)
    ∙ ap (λ text. script_text_of set spot meaning ++ text) (rest ∙ ap (λ c. text_from set behind (readings_from labels set c (map tokens_of lines))) (sym current))
    ∙ sym (ap (λ b. if b then [] else script_text_of set spot meaning ++ text_from set behind others) going.0)

pub replay : (labels : LabelPlaces) (set : ProgramSet) (lines : List (List ℕ)) → AllByRecursion (λ line. line_fault 1 line ≡ None) lines
    → bad_command labels set (map tokens_of lines) ≡ None → past_end labels set (map tokens_of lines) ≡ None
    → answers labels set first_spot lines ≡ script_text labels set (map tokens_of lines)
unfolding bad_command past_end script_text
replay labels set lines faultless good goes =
    replayed labels set first_spot lines faultless (at_end is_outside (readings labels set (map tokens_of lines)) good) (at_end (is_past set) (readings labels set (map tokens_of lines)) goes)

pub more_answers : (labels : LabelPlaces) (set : ProgramSet) (spot : Spot) (front back : List (List ℕ)) → answers labels set spot (front ++ back) ≡ answers labels set spot front ++ answers labels set (spot_after labels set spot front) back
more_answers labels set spot [] back = refl
more_answers labels set spot (line ∷ front) back =
    ap (λ text. line_answer labels set spot line ++ text) (more_answers labels set (line_spot labels set spot line) front back)
    ∙ sym (append_assoc (line_answer labels set spot line) (answers labels set (line_spot labels set spot line) front) (answers labels set (spot_after labels set (line_spot labels set spot line) front) back))

-- ---- one line

-- what is written of a line that does not go past the end is its answer
pub answered : (set : ProgramSet) (spot : Spot) (read : Reading) (tokens : List (List ℕ)) → (read ≡ reading.Outside → ⊥) → is_past set (meant read tokens) ≡ false
    → line_text set spot (meant read tokens) ≡ answer_to set spot (meant read tokens)
answered set spot reading.Outside tokens other going = absurd (other refl)
answered set spot (reading.Says command) tokens other going = rw going refl
answered set spot _ tokens other going = refl

-- one that does writes nothing, and is answered so
pub nothing_written : (set : ProgramSet) (spot : Spot) (meaning : Meaning) → is_past set meaning ≡ true → line_text set spot meaning ≡ []
nothing_written set spot meaning past = rw past refl

pub past_answer : (set : ProgramSet) (spot : Spot) (read : Reading) (tokens : List (List ℕ)) → is_past set (meant read tokens) ≡ true
    → answer_to set spot (meant read tokens) ≡ 112 ∷ 97 ∷ 115 ∷ 116 ∷ 45 ∷ 101 ∷ 110 ∷ 100 ∷ 10 ∷ []
past_answer set spot (reading.Says command) tokens past = rw past refl
past_answer set spot _ tokens past = absurd (cc past)

-- and leads nowhere, where the current processor is put back
pub past_spot : (set : ProgramSet) (spot : Spot) (meaning : Meaning) → is_past set meaning ≡ true
    → record { moment = (moved_by set spot meaning).moment; current = spot.current } ≡ spot_behind set spot meaning
past_spot set spot (Says (At p steps)) past =
    ap (λ o. record { moment = (moved spot p o).moment; current = spot.current }) (past_leads_nowhere set p.0 steps past)
    ∙ sym (ap (λ b. if b then spot else moved_by set spot (Says (At p steps))) past)
past_spot set spot _ past = absurd (cc past)

pub spot_stays : (set : ProgramSet) (spot : Spot) (meaning : Meaning) → is_past set meaning ≡ false → moved_by set spot meaning ≡ spot_behind set spot meaning
spot_stays set spot meaning going = rw going refl
