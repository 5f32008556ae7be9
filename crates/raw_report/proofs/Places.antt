-- Lines from a place on.
use Rattle.std.proofs.Common.{◌≡◌, ℕ, ◌+◌, ◌-◌, ◌<◌, ◌≤◌, true, false, List, [], ◌∷◌, ◌++◌, length, get_or, take, drop, None, Some, refl, sym, ap, subst, ◌∙◌, arith, length-drop}
use Rattle.std.specs.Prelude.{nat_lt}
use Rattle.std.proofs.lemmas.Bool.Decides.{nat_tests}
use Rattle.std.proofs.lemmas.List.{get_or-drop, take_all}
use Rattle.raw_text.specs.Number.{number_of}
use Rattle.raw_report.specs.History.{within, entry_of, entries_of, IsBadEntry}
use Rattle.raw_report.proofs.Entries.{next_none, next_some}
use Rattle.raw_report.proofs.Bad.{bad_at}

-- a line that has not one token says no step
pub not_one : (procs : ℕ) (line : List (List ℕ)) → (length line ≡ 1 → ⊥) → entry_of procs line ≡ None
unfolding entry_of
not_one procs (token ∷ []) more = absurd (more refl)
not_one procs _ more = refl

-- a line of one token says what its number says
pub one : (procs : ℕ) (line : List (List ℕ)) → length line ≡ 1 → entry_of procs line ≡ within procs (number_of (get_or line 0 []))
unfolding entry_of
one procs (token ∷ []) is = refl
one procs _ is = absurd (omega (arith, is))

pub within_below : (procs p : ℕ) → p < procs → within procs (Some p) ≡ Some p
within_below procs p lt =
    let yes : nat_lt p procs ≡ true = grind (arith, nat_tests) in
    rw yes refl

pub within_above : (procs p : ℕ) → procs ≤ p → within procs (Some p) ≡ None
within_above procs p le =
    let no : nat_lt p procs ≡ false = grind (arith, nat_tests) in
    rw no refl

module _ (procs from line : ℕ) (lines : List (List (List ℕ))) (a : List ℕ) (past : from ≤ line) where
  at_place : get_or (drop from lines) (line - from) [] ≡ get_or lines line []
  at_place =
      let e : from + (line - from) ≡ line = omega (arith, past) in
      get_or-drop from lines (line - from) [] ∙ ap (λ i. get_or lines i []) e

  there : line < length lines → line - from < length (drop from lines)
  there lt = omega (arith, past, lt, length-drop from lines)

  one_more : line + 1 - from ≡ line - from + 1
  one_more = omega (arith, past)

  module _ (lt : line < length lines) (before : entries_of procs (take (line - from) (drop from lines)) ≡ Some a) where
    pub bad_here : 0 < length (get_or lines line []) → entry_of procs (get_or lines line []) ≡ None → IsBadEntry procs (drop from lines) (line - from)
    bad_here some none =
        bad_at procs (drop from lines) (line - from) a (there lt) (subst (λ l. 0 < length l) (sym at_place) some)
        (ap (entry_of procs) at_place ∙ none) before

    pub none_here : length (get_or lines line []) ≡ 0 → entries_of procs (take (line + 1 - from) (drop from lines)) ≡ Some (a ++ [])
    none_here none =
        ap (λ n. entries_of procs (take n (drop from lines))) one_more
        ∙ next_none procs (drop from lines) (line - from) a (there lt) (ap length at_place ∙ none) before

    pub some_here : (p : ℕ) → 0 < length (get_or lines line []) → entry_of procs (get_or lines line []) ≡ Some p
        → entries_of procs (take (line + 1 - from) (drop from lines)) ≡ Some (a ++ p ∷ [])
    some_here p some says =
        ap (λ n. entries_of procs (take n (drop from lines))) one_more
        ∙ next_some procs (drop from lines) (line - from) p a (there lt) (subst (λ l. 0 < length l) (sym at_place) some)
        (ap (entry_of procs) at_place ∙ says) before

  pub at_end : length lines ≤ line → entries_of procs (take (line - from) (drop from lines)) ≡ Some a → entries_of procs (drop from lines) ≡ Some a
  at_end end before =
      ap (entries_of procs) (sym (take_all (line - from) (drop from lines) (omega (arith, past, end, length-drop from lines)))) ∙ before
