-- The steps that lines say, one line after another.
use Rattle.std.proofs.Common.{◌≡◌, ℕ, ◌+◌, ◌<◌, List, [], ◌∷◌, ◌++◌, length, get_or, take, Option, None, Some, refl, ap, ◌∙◌, arith}
use Rattle.std.specs.Option.{option_and_then, option_map}
use Rattle.std.proofs.lemmas.List.{take_more}
use Rattle.raw_report.specs.History.{entry_of, entries_of}

-- lines that say steps, and one more
join : (e : Option ℕ) (r more : Option (List ℕ)) (a b : List ℕ) → ((s : List ℕ) → r ≡ Some s → more ≡ Some (s ++ b))
    → option_and_then (λ p. option_map (λ steps. p ∷ steps) r) e ≡ Some a
    → option_and_then (λ p. option_map (λ steps. p ∷ steps) more) e ≡ Some (a ++ b)
join None r more a b h is = absurd (cc is)
join (Some p) None more a b h is = absurd (cc is)
join (Some p) (Some s) more a b h is = ap (option_map (λ steps. p ∷ steps)) (h s refl) ∙ ap (option_map (λ steps. steps ++ b)) is

-- the steps of lines and of one line more
pub entries_more : (procs : ℕ) (lines : List (List (List ℕ))) (line : List (List ℕ)) (a b : List ℕ)
    → entries_of procs lines ≡ Some a → entries_of procs (line ∷ []) ≡ Some b → entries_of procs (lines ++ line ∷ []) ≡ Some (a ++ b)
entries_more procs [] line a b first next = next ∙ ap (option_map (λ steps. steps ++ b)) first
entries_more procs ([] ∷ lines) line a b first next = entries_more procs lines line a b first next
entries_more procs ((token ∷ tokens) ∷ lines) line a b first next =
    join (entry_of procs (token ∷ tokens)) (entries_of procs lines) (entries_of procs (lines ++ line ∷ [])) a b (λ s is. entries_more procs lines line s b is next) first

-- a line without tokens says nothing
one_none : (procs : ℕ) (line : List (List ℕ)) → length line ≡ 0 → entries_of procs (line ∷ []) ≡ Some []
one_none procs [] none = refl
one_none procs (token ∷ tokens) none = absurd (omega (arith, none))

-- a line with tokens says its step
one_some : (procs : ℕ) (line : List (List ℕ)) (p : ℕ) → 0 < length line → entry_of procs line ≡ Some p → entries_of procs (line ∷ []) ≡ Some (p ∷ [])
one_some procs [] p some says = absurd (omega (arith, some))
one_some procs (token ∷ tokens) p some says = ap (option_and_then (λ p. Some (p ∷ []))) says

-- the lines up to place k, and the one at k
pub next_none : (procs : ℕ) (lines : List (List (List ℕ))) (k : ℕ) (a : List ℕ) → k < length lines → length (get_or lines k []) ≡ 0
    → entries_of procs (take k lines) ≡ Some a → entries_of procs (take (k + 1) lines) ≡ Some (a ++ [])
next_none procs lines k a lt none before =
    ap (entries_of procs) (take_more lines k [] lt) ∙ entries_more procs (take k lines) (get_or lines k []) a [] before (one_none procs (get_or lines k []) none)

pub next_some : (procs : ℕ) (lines : List (List (List ℕ))) (k p : ℕ) (a : List ℕ) → k < length lines → 0 < length (get_or lines k [])
    → entry_of procs (get_or lines k []) ≡ Some p → entries_of procs (take k lines) ≡ Some a → entries_of procs (take (k + 1) lines) ≡ Some (a ++ p ∷ [])
next_some procs lines k p a lt some says before =
    ap (entries_of procs) (take_more lines k [] lt)
    ∙ entries_more procs (take k lines) (get_or lines k []) a (p ∷ []) before (one_some procs (get_or lines k []) p some says)
