-- What the lines of a script say, one after another.
use Rattle.std.proofs.Common.{◌≡◌, ℕ, zero, suc, ◌+◌, ◌-◌, ◌<◌, ◌≤◌, Bool, true, false, List, [], ◌∷◌, length, get_or, drop, Some, None, refl, sym, ap, ◌∙◌, arith, length-drop, drop-cons, below_more}
use Rattle.std.specs.List.{position}
use Rattle.std.proofs.lemmas.List.{get_or-drop}
use Rattle.raw_text.proofs.Places.{position_found, position_absent}
use Rattle.raw_model.specs.Program.{ProgramSet}
use Rattle.raw_debug.specs.declared.command.Reading.{Reading}
use Rattle.raw_debug.specs.declared.command.Reading.TheVariants as reading
use Rattle.raw_grid.specs.declared.parts.ProcId.{ProcId}
use Rattle.raw_debug.specs.Commands.{LabelPlaces, Meaning, first_processor, led_by, meaning_of, meant, readings_from, readings, is_outside}
use Rattle.raw_debug.specs.Commands.Meaning.{Blank}

-- what is left behind one that is next
rest_after : {A : Type 0} (xs : List A) (j : ℕ) (x : A) (rest : List A) → drop j xs ≡ x ∷ rest → drop (suc j) xs ≡ rest
rest_after [] zero x rest e = absurd (cc e)
rest_after [] (suc j) x rest e = absurd (cc e)
rest_after (y ∷ xs) zero x rest e = cc e
rest_after (y ∷ xs) (suc j) x rest e = rest_after xs j x rest e

first_left : {A : Type 0} (xs : List A) (j : ℕ) (x d : A) (rest : List A) → drop j xs ≡ x ∷ rest → get_or xs j d ≡ x
first_left [] zero x d rest e = absurd (cc e)
first_left [] (suc j) x d rest e = absurd (cc e)
first_left (y ∷ xs) zero x d rest e = cc e
first_left (y ∷ xs) (suc j) x d rest e = first_left xs j x d rest e

-- a line is in the grammar where it is not outside
pub inside : (read : Reading) (tokens : List (List ℕ)) → (read ≡ reading.Outside → ⊥) → is_outside (meant read tokens) ≡ false
inside reading.Outside tokens other = absurd (other refl)
inside _ tokens other = refl

module _ (labels : LabelPlaces) (set : ProgramSet) where
  pub length_readings : (current : ProcId) (lines : List (List (List ℕ))) → length (readings_from labels set current lines) ≡ length lines
  length_readings current [] = refl
  length_readings current (line ∷ lines) = ap suc (length_readings (led_by current (meaning_of labels set current.0 line)) lines)

  -- from here on the lines of a text, those from a place on, are read with this current processor
  pub record AreLeft (all : List (List (List ℕ))) (from line : ℕ) (current : ProcId) : Type 0 where
    pub past : from ≤ line
    pub left : drop (line - from) (readings labels set (drop from all)) ≡ readings_from labels set current (drop (line - from) (drop from all))

  pub all_left : (all : List (List (List ℕ))) (from : ℕ) (current : ProcId) → readings_from labels set current (drop from all) ≡ readings labels set (drop from all) → AreLeft all from from current
  all_left all from current is =
      let none : from - from ≡ 0 = omega arith in
      record { past = omega arith; left = rw none (sym is) }

  module _ (all : List (List (List ℕ))) (from line : ℕ) (current : ProcId) (at : AreLeft all from line current) where
    abbrev pub here : Meaning
    here = meaning_of labels set current.0 (get_or all line [])

    same_line : get_or (drop from all) (line - from) [] ≡ get_or all line []
    same_line =
        let e : from + (line - from) ≡ line = omega (arith, at.past) in
        get_or-drop from all (line - from) [] ∙ ap (λ i. get_or all i []) e

    pub next_is : line < length all → drop (line - from) (readings labels set (drop from all)) ≡ here ∷ readings_from labels set (led_by current here) (drop (suc (line - from)) (drop from all))
    next_is lt =
        at.left
        ∙ ap (readings_from labels set current) (drop-cons (drop from all) (line - from) [] (omega (arith, lt, at.past, length-drop from all)))
        ∙ ap (λ tokens. meaning_of labels set current.0 tokens ∷ readings_from labels set (led_by current (meaning_of labels set current.0 tokens)) (drop (suc (line - from)) (drop from all))) same_line

    pub left_is : line < length all
        → readings_from labels set current (drop (line - from) (drop from all)) ≡ here ∷ readings_from labels set (led_by current here) (drop (line + 1 - from) (drop from all))
    left_is lt =
        let e : suc (line - from) ≡ line + 1 - from = omega (arith, at.past) in
        sym at.left ∙ next_is lt ∙ ap (λ j. here ∷ readings_from labels set (led_by current here) (drop j (drop from all))) e

    pub reading_is : line < length all → get_or (readings labels set (drop from all)) (line - from) Blank ≡ here
    reading_is lt = first_left (readings labels set (drop from all)) (line - from) here Blank _ (next_is lt)

    pub left_after : line < length all → AreLeft all from (line + 1) (led_by current here)
    left_after lt =
        let e : line + 1 - from ≡ suc (line - from) = omega (arith, at.past) in
        record {
          past = omega (arith, at.past);
          left = rw e (rest_after (readings labels set (drop from all)) (line - from) here _ (next_is lt));
        }

    module _ (test : Meaning → Bool) (before : (k : ℕ) → k < line - from → test (get_or (readings labels set (drop from all)) k Blank) ≡ false) where
      -- the first line that passes a test
      pub found : line < length all → test here ≡ true → position test (readings labels set (drop from all)) ≡ Some (line - from)
      found lt passes =
          position_found test (readings labels set (drop from all)) (line - from) Blank
          (omega (arith, lt, at.past, length-drop from all, length_readings first_processor (drop from all))) before (ap test (reading_is lt) ∙ passes)

      -- no line before the next passes it
      pub none_more : line < length all → test here ≡ false → (k : ℕ) → k < line + 1 - from → test (get_or (readings labels set (drop from all)) k Blank) ≡ false
      none_more lt fails k lt_k =
          below_more (λ k. test (get_or (readings labels set (drop from all)) k Blank) ≡ false) (line - from) before (ap test (reading_is lt) ∙ fails) k (omega (arith, lt_k, at.past))

      -- no line passes it
      pub absent : length all ≤ line → position test (readings labels set (drop from all)) ≡ None
      absent le =
          position_absent test (readings labels set (drop from all)) Blank
          (λ k lt. before k (omega (arith, lt, le, at.past, length-drop from all, length_readings first_processor (drop from all))))
