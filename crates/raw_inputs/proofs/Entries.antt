-- Steps that lines say are those of so many processors.
use Rattle.std.proofs.Common.{◌≡◌, ◌∙◌, ℕ, zero, suc, ◌<◌, Bool, true, false, List, [], ◌∷◌, Option, Some, None, refl, sym, ap, subst}
use Rattle.std.specs.Prelude.{nat_lt, slice_get, if◌then◌else◌}
use Rattle.std.specs.Option.{option_and_then, option_map}
use Rattle.std.proofs.lemmas.Option.{slice_get-map}
use borrow.Author.Tests.{ltb-true}
use Rattle.raw_text.specs.Number.{number_of}
use Rattle.raw_grid.specs.declared.parts.ProcId.{ProcId}
use Rattle.raw_report.specs.History.{within, entry_of, entries_of}
use Rattle.raw_steps.specs.Taking.{numbers, AreThere}

within_few : (procs : ℕ) (o : Option ℕ) (p : ℕ) → within procs o ≡ Some p → p < procs
within_few procs None p e = absurd (cc e)
within_few procs (Some n) p e = few (nat_lt n procs) refl e
  where
    few : (b : Bool) → b ≡ nat_lt n procs → (if b then Some n else None) ≡ Some p → p < procs
    few true is e = let same : n ≡ p = cc e in subst (λ q. q < procs) same (ltb-true n procs (sym is))
    few false is e = absurd (cc e)

entry_few : (procs : ℕ) (line : List (List ℕ)) (p : ℕ) → entry_of procs line ≡ Some p → p < procs
unfolding entry_of
entry_few procs (token ∷ []) p e = within_few procs (number_of token) p e
entry_few procs _ p e = absurd (cc e)

-- all of these are below n
abbrev AreBelow : ℕ → List ℕ → Type 0
AreBelow n steps = (i p : ℕ) → slice_get steps i ≡ Some p → p < n

below_more : (n p : ℕ) (steps : List ℕ) → p < n → AreBelow n steps → AreBelow n (p ∷ steps)
below_more n p steps few all zero q here = let same : p ≡ q = cc here in subst (λ k. k < n) same few
below_more n p steps few all (suc i) q here = all i q here

pub entries_below : (procs : ℕ) (lines : List (List (List ℕ))) (steps : List ℕ) → entries_of procs lines ≡ Some steps → AreBelow procs steps
entries_below procs [] steps e = λ i p here. let none : [] ≡ steps = cc e in absurd (let h = subst (λ l. slice_get l i ≡ Some p) (sym none) here in cc h)
entries_below procs ([] ∷ lines) steps e = entries_below procs lines steps e
entries_below procs ((token ∷ tokens) ∷ lines) steps e =
    by (entry_of procs (token ∷ tokens)) refl (entries_of procs lines) (λ others b. entries_below procs lines others b) e
  where
    by : (o : Option ℕ) → o ≡ entry_of procs (token ∷ tokens) → (rest : Option (List ℕ)) → ((others : List ℕ) → rest ≡ Some others → AreBelow procs others)
        → option_and_then (λ p. option_map (λ steps. p ∷ steps) rest) o ≡ Some steps → AreBelow procs steps
    by None a rest all e = absurd (cc e)
    by (Some p) a None all e = absurd (cc e)
    by (Some p) a (Some others) all e =
        let same : (p ∷ others) ≡ steps = cc e in
        subst (AreBelow procs) same (below_more procs p others (entry_few procs (token ∷ tokens) p (sym a)) (all others refl))

-- so are the processors with these numbers
pub there_below : (procs : ℕ) (ps : List ProcId) → AreBelow procs (numbers ps) → AreThere procs ps
there_below procs ps all = λ i p here. all i p.0 (slice_get-map (λ (q : ProcId). q.0) ps i ∙ ap (option_map (λ (q : ProcId). q.0)) here)
