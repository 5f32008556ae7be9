-- Histories that are written are read back.
use Rattle.std.proofs.Common.{◌≡◌, ℕ, ◌<◌, ◌≤◌, ◌^◌, true, List, [], ◌∷◌, ◌++◌, map, drop, get_or, None, Some, refl, sym, ap, ◌∙◌, arith}
use Rattle.std.specs.Prelude.{codes, decimal, nat_lt}
use Rattle.std.specs.Option.{option_and_then, option_map}
use Rattle.std.specs.List.{AllByRecursion}
use Rattle.std.proofs.lemmas.Bool.Decides.{nat_tests}
use Rattle.std.proofs.lemmas.List.Folds.{flat_map-map}
use Rattle.raw_text.specs.Lines.{lines_of, tokens_of, first_fault, written_lines, IsLine}
use Rattle.raw_text.proofs.WrittenLines.{lines_back, no_fault, plain_lines}
use Rattle.raw_text.proofs.WrittenTokens.{token_last, token_plain}
use Rattle.raw_text.proofs.NumberTexts.{decimal_read, decimal_token, decimal_length}
use Rattle.raw_report.specs.History.{history_text, within, entry_of, entries_of}

-- the lines of a history
history_lines : List ℕ → List (List ℕ)
history_lines steps = codes "history" ∷ map decimal steps

text_is : (steps : List ℕ) → history_text steps ≡ written_lines (history_lines steps)
unfolding history_text written_lines history_lines
text_is steps = ap (λ text. codes "history\n" ++ text) (sym (flat_map-map (λ line. line ++ 10 ∷ []) decimal steps))

number_line : (p : ℕ) → p < 2 ^ 32 → IsLine (decimal p)
number_line p small =
    let short = decimal_length p small in
    record { plain = token_plain (decimal p) (decimal_token p (omega (arith, small))); short = omega (arith, short) }

number_lines : (steps : List ℕ) → AllByRecursion (λ p. p < 2 ^ 32) steps → AllByRecursion IsLine (map decimal steps)
number_lines [] all = tt
number_lines (p ∷ steps) all = (number_line p all.0, number_lines steps all.1)

are_lines : (steps : List ℕ) → AllByRecursion (λ p. p < 2 ^ 32) steps → AllByRecursion IsLine (history_lines steps)
unfolding history_lines
are_lines steps all = (record { plain = refl; short = omega arith }, number_lines steps all)

lines_are : (steps : List ℕ) → AllByRecursion (λ p. p < 2 ^ 32) steps → lines_of (history_text steps) ≡ history_lines steps
lines_are steps all = ap lines_of (text_is steps) ∙ lines_back (history_lines steps) (plain_lines (history_lines steps) (are_lines steps all))

pub faultless : (steps : List ℕ) → AllByRecursion (λ p. p < 2 ^ 32) steps → first_fault 1 (lines_of (history_text steps)) ≡ None
faultless steps all = ap (first_fault 1) (lines_are steps all) ∙ no_fault 1 (history_lines steps) (are_lines steps all)

pub head : (steps : List ℕ) → AllByRecursion (λ p. p < 2 ^ 32) steps
    → get_or (map tokens_of (lines_of (history_text steps))) 0 [] ≡ codes "history" ∷ []
unfolding history_lines
head steps all = ap (λ lines. get_or (map tokens_of lines) 0 []) (lines_are steps all) ∙ token_last (codes "history") (record { some = omega arith; solid = refl })

-- a number says the step
number_said : (procs p : ℕ) → procs ≤ 2 ^ 32 → p < procs → entry_of procs (decimal p ∷ []) ≡ Some p
unfolding entry_of
number_said procs p most lt =
    let yes : nat_lt p procs ≡ true = grind (arith, nat_tests) in
    ap (within procs) (decimal_read p (omega (arith, most, lt))) ∙ (rw yes refl)

steps_said : (procs : ℕ) (steps : List ℕ) → procs ≤ 2 ^ 32 → AllByRecursion (λ p. p < procs) steps → entries_of procs (map tokens_of (map decimal steps)) ≡ Some steps
steps_said procs [] most all = refl
steps_said procs (p ∷ steps) most all =
    ap (λ line. entries_of procs (line ∷ map tokens_of (map decimal steps))) (token_last (decimal p) (decimal_token p (omega (arith, most, all.0))))
    ∙ ap (option_and_then (λ p. option_map (λ steps. p ∷ steps) (entries_of procs (map tokens_of (map decimal steps))))) (number_said procs p most all.0)
    ∙ ap (option_map (λ steps. p ∷ steps)) (steps_said procs steps most all.1)

small : (procs : ℕ) (steps : List ℕ) → procs ≤ 2 ^ 32 → AllByRecursion (λ p. p < procs) steps → AllByRecursion (λ p. p < 2 ^ 32) steps
small procs [] most all = tt
small procs (p ∷ steps) most all = (omega (arith, most, all.0), small procs steps most all.1)

pub read_back : (procs : ℕ) (steps : List ℕ) → procs ≤ 2 ^ 32 → AllByRecursion (λ p. p < procs) steps
    → entries_of procs (drop 1 (map tokens_of (lines_of (history_text steps)))) ≡ Some steps
unfolding history_lines
read_back procs steps most all =
    ap (λ lines. entries_of procs (drop 1 (map tokens_of lines))) (lines_are steps (small procs steps most all)) ∙ steps_said procs steps most all
