-- The first line that says no step.
use Rattle.std.proofs.Common.{◌≡◌, ◌⊎◌, inl, inr, ℕ, zero, suc, ◌<◌, List, [], ◌∷◌, length, get_or, take, Option, None, Some, refl, sym, ap, subst, ◌∙◌, arith}
use Rattle.std.proofs.lemmas.List.{get_or-take}
use Rattle.std.specs.Option.{option_and_then, option_map}
use Rattle.raw_report.specs.History.{entry_of, entries_of, IsBadEntry}

-- what a line says that has tokens: a step
abbrev pub Says : ℕ → List (List ℕ) → Type 0
Says procs line = (p : ℕ) × (entry_of procs line ≡ Some p)

after_first : (procs : ℕ) (line : List (List ℕ)) (lines : List (List (List ℕ))) (k : ℕ) → IsBadEntry procs (line ∷ lines) (suc k) → IsBadEntry procs lines k
after_first procs line lines k bad =
    record { within = omega (arith, bad.within); some = bad.some; no_step = bad.no_step; before = λ j lt some. bad.before (suc j) (omega (arith, lt)) some }

behind : (procs : ℕ) (line : List (List ℕ)) (lines : List (List (List ℕ))) (k : ℕ) → (0 < length line → Says procs line) → IsBadEntry procs lines k
    → (j : ℕ) → j < suc k → 0 < length (get_or (line ∷ lines) j []) → Says procs (get_or (line ∷ lines) j [])
behind procs line lines k says bad zero lt some = says some
behind procs line lines k says bad (suc j) lt some = bad.before j (omega (arith, lt)) some

with_first : (procs : ℕ) (line : List (List ℕ)) (lines : List (List (List ℕ))) (k : ℕ) → (0 < length line → Says procs line) → IsBadEntry procs lines k
    → IsBadEntry procs (line ∷ lines) (suc k)
with_first procs line lines k says bad =
    record { within = omega (arith, bad.within); some = bad.some; no_step = bad.no_step; before = behind procs line lines k says bad }

-- lines with a bad entry say no steps
pub not_both : (procs k : ℕ) (lines : List (List (List ℕ))) → IsBadEntry procs lines k → entries_of procs lines ≡ None
not_both procs k [] bad = absurd (omega (arith, bad.within))
not_both procs zero ([] ∷ lines) bad = absurd (omega (arith, bad.some))
not_both procs zero ((token ∷ tokens) ∷ lines) bad =
    ap (option_and_then (λ p. option_map (λ steps. p ∷ steps) (entries_of procs lines))) bad.no_step
not_both procs (suc k) ([] ∷ lines) bad = not_both procs k lines (after_first procs [] lines k bad)
not_both procs (suc k) ((token ∷ tokens) ∷ lines) bad =
    let says = bad.before 0 (omega arith) (omega arith) in
    ap (option_and_then (λ p. option_map (λ steps. p ∷ steps) (entries_of procs lines))) says.1
    ∙ ap (option_map (λ steps. says.0 ∷ steps)) (not_both procs k lines (after_first procs (token ∷ tokens) lines k bad))

not_before : (procs j k : ℕ) (lines : List (List (List ℕ))) → IsBadEntry procs lines j → IsBadEntry procs lines k → j < k → ⊥
not_before procs j k lines first second lt = cc ((second.before j lt first.some).1, first.no_step)

-- there is one bad entry at most
pub one_bad : (procs j k : ℕ) (lines : List (List (List ℕ))) → IsBadEntry procs lines j → IsBadEntry procs lines k → j ≡ k
one_bad procs j k lines first second =
    let low = not_before procs j k lines first second in
    let high = not_before procs k j lines second first in
    omega (arith, low, high)

-- what lines say: steps, or a bad entry
abbrev Either : ℕ → List (List (List ℕ)) → Type 0
Either procs lines = ((steps : List ℕ) × (entries_of procs lines ≡ Some steps)) ⊎ ((k : ℕ) × IsBadEntry procs lines k)

no_first : (procs : ℕ) (lines : List (List (List ℕ))) → Either procs lines → Either procs ([] ∷ lines)
no_first procs lines (inl steps) = inl steps
no_first procs lines (inr bad) = inr (suc bad.0, with_first procs [] lines bad.0 (λ some. absurd (omega (arith, some))) bad.1)

says_first : (procs p : ℕ) (token : List ℕ) (tokens : List (List ℕ)) (lines : List (List (List ℕ))) → entry_of procs (token ∷ tokens) ≡ Some p
    → Either procs lines → Either procs ((token ∷ tokens) ∷ lines)
says_first procs p token tokens lines says (inl steps) =
    inl (
      p ∷ steps.0,
      ap (option_and_then (λ p. option_map (λ steps. p ∷ steps) (entries_of procs lines))) says ∙ ap (option_map (λ steps. p ∷ steps)) steps.1,
    )
says_first procs p token tokens lines says (inr bad) = inr (suc bad.0, with_first procs (token ∷ tokens) lines bad.0 (λ some. (p, says)) bad.1)

bad_first : (procs : ℕ) (token : List ℕ) (tokens : List (List ℕ)) (lines : List (List (List ℕ))) → entry_of procs (token ∷ tokens) ≡ None
    → IsBadEntry procs ((token ∷ tokens) ∷ lines) 0
bad_first procs token tokens lines none =
    record { within = omega arith; some = omega arith; no_step = none; before = λ j lt some. absurd (omega (arith, lt)) }

by_first : (procs : ℕ) (token : List ℕ) (tokens : List (List ℕ)) (lines : List (List (List ℕ))) (e : Option ℕ) → entry_of procs (token ∷ tokens) ≡ e
    → Either procs lines → Either procs ((token ∷ tokens) ∷ lines)
by_first procs token tokens lines None is rest = inr (0, bad_first procs token tokens lines is)
by_first procs token tokens lines (Some p) is rest = says_first procs p token tokens lines is rest

pub either : (procs : ℕ) (lines : List (List (List ℕ))) → Either procs lines
either procs [] = inl ([], refl)
either procs ([] ∷ lines) = no_first procs lines (either procs lines)
either procs ((token ∷ tokens) ∷ lines) = by_first procs token tokens lines (entry_of procs (token ∷ tokens)) refl (either procs lines)

-- each line with tokens says a step where all lines do
pub no_step_bad : (procs : ℕ) (lines : List (List (List ℕ))) (a : List ℕ) → entries_of procs lines ≡ Some a → (k : ℕ) → IsBadEntry procs lines k → ⊥
no_step_bad procs lines a is k bad = cc (is, not_both procs k lines bad)

first_says : (e : Option ℕ) (rest : Option (List ℕ)) (a : List ℕ) → option_and_then (λ p. option_map (λ steps. p ∷ steps) rest) e ≡ Some a
    → ((p : ℕ) × (e ≡ Some p)) × ((b : List ℕ) × (rest ≡ Some b))
first_says None rest a is = absurd (cc is)
first_says (Some p) None a is = absurd (cc is)
first_says (Some p) (Some b) a is = ((p, refl), (b, refl))

all_say : (procs : ℕ) (lines : List (List (List ℕ))) (a : List ℕ) → entries_of procs lines ≡ Some a
    → (j : ℕ) → 0 < length (get_or lines j []) → Says procs (get_or lines j [])
all_say procs [] a is j some = absurd (omega (arith, some))
all_say procs ([] ∷ lines) a is zero some = absurd (omega (arith, some))
all_say procs ([] ∷ lines) a is (suc j) some = all_say procs lines a is j some
all_say procs ((token ∷ tokens) ∷ lines) a is zero some = (first_says (entry_of procs (token ∷ tokens)) (entries_of procs lines) a is).0
all_say procs ((token ∷ tokens) ∷ lines) a is (suc j) some =
    let rest = (first_says (entry_of procs (token ∷ tokens)) (entries_of procs lines) a is).1 in
    all_say procs lines rest.0 rest.1 j some

-- a line that says no step, where those before it say steps
pub bad_at : (procs : ℕ) (lines : List (List (List ℕ))) (k : ℕ) (a : List ℕ) → k < length lines → 0 < length (get_or lines k [])
    → entry_of procs (get_or lines k []) ≡ None → entries_of procs (take k lines) ≡ Some a → IsBadEntry procs lines k
bad_at procs lines k a lt some none before = record {
  within = lt;
  some = some;
  no_step = none;
  before = λ j less has.
      let same : get_or (take k lines) j [] ≡ get_or lines j [] = get_or-take k lines j [] less in
      subst (λ line. Says procs line) same (all_say procs (take k lines) a before j (subst (λ line. 0 < length line) (sym same) has));
}
