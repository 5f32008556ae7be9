-- What one line says, by the text that it is read into.
use Rattle.std.proofs.Common.{◌≡◌, ℕ, ◌<◌, ◌==◌, true, false, not, List, [], ◌∷◌, length, map, Option, Some, None, slice_index_or, refl, sym, ap, ◌∙◌, arith}
use Rattle.std.specs.Option.{option_or}
use Rattle.std.specs.List.{list_all}
use Rattle.std.proofs.lemmas.List.Splits.{slice_split_none}
use Rattle.std.proofs.lemmas.Bool.Decides.{nat_tests}
use Rattle.raw_text.specs.Lines.{lines_of, runs_of, tokens_of, is_newline, line_fault, first_fault}
use Rattle.raw_text.specs.declared.lines.TextRefusal.TheVariants.{NotAscii, LineTooLong}
use Rattle.raw_text.proofs.WrittenLines.{all_fail}
use Rattle.raw_live_text.specs.declared.intake.Intake.{Intake}
use Rattle.raw_live_text.specs.declared.fault.LineFault.TheVariants as fault
use Rattle.raw_live_text.specs.declared.put.Said.TheVariants.{Nothing, Fault}
use Rattle.raw_live_text.specs.Puts.{says, tokens_say, fault_or}

-- an empty line says nothing
pub says_nothing : (intake : Intake) (line : List ℕ) → length line ≡ 0 → says intake line ≡ Nothing
unfolding says runs_of
says_nothing intake [] h = refl
says_nothing intake (b ∷ line) h = absurd (omega arith)

-- a line is the one line of itself
pub line_alone : (line : List ℕ) → list_all (λ b. not (is_newline b)) line ≡ true → 0 < length line → lines_of line ≡ line ∷ []
unfolding lines_of
line_alone line free some =
    let e : (length line == 0) ≡ false = grind (arith, nat_tests) in
    rw (slice_split_none is_newline line (all_fail is_newline line free), e) refl

or_none : {T : Type 0} (a : Option T) → option_or a None ≡ a
or_none None = refl
or_none (Some x) = refl

module _ (line : List ℕ) (free : list_all (λ b. not (is_newline b)) line ≡ true) (some : 0 < length line) where
  pub the_fault : first_fault 1 (lines_of line) ≡ line_fault 1 line
  the_fault = ap (first_fault 1) (line_alone line free some) ∙ or_none (line_fault 1 line)

  pub text_is : (lines : List (List (List ℕ))) → lines ≡ map tokens_of (lines_of line) → lines ≡ tokens_of line ∷ []
  text_is lines e = e ∙ ap (map tokens_of) (line_alone line free some)

module _ (intake : Intake) (line : List ℕ) (free : list_all (λ b. not (is_newline b)) line ≡ true) (some : 0 < length line) where
  pub says_tokens : (lines : List (List (List ℕ))) → lines ≡ map tokens_of (lines_of line) → first_fault 1 (lines_of line) ≡ None
      → tokens_say intake (slice_index_or lines 0 []) ≡ says intake line
  unfolding says
  says_tokens lines e none =
      ap (λ l. tokens_say intake (slice_index_or l 0 [])) (text_is line free some lines e)
      ∙ sym (ap (λ f. fault_or f (tokens_say intake (tokens_of line))) (sym (the_fault line free some) ∙ none))

  pub says_not_ascii : (number : ℕ) → first_fault 1 (lines_of line) ≡ Some (NotAscii number) → Fault fault.NotAscii ≡ says intake line
  unfolding says
  says_not_ascii number e = sym (ap (λ f. fault_or f (tokens_say intake (tokens_of line))) (sym (the_fault line free some) ∙ e))

  pub says_long : (number : ℕ) → first_fault 1 (lines_of line) ≡ Some (LineTooLong number) → Fault fault.LineTooLong ≡ says intake line
  unfolding says
  says_long number e = sym (ap (λ f. fault_or f (tokens_say intake (tokens_of line))) (sym (the_fault line free some) ∙ e))
