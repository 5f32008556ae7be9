-- What terms say that are compared one by one, and the first port of which a test holds.
use Rattle.std.proofs.Common.{◌≡◌, ℕ, zero, suc, ◌+◌, ◌-◌, ◌<◌, Bool, true, false, not, List, length, Option, Some, Ok, Err, sym, ap, ◌∙◌, subst, cond, inl, inr, ⊎_elim, ◌⊎◌, eq-eqb, arith}
use Rattle.std.specs.Prelude.{Result, IfOk, ◌==◌}
use Rattle.std.specs.List.{find, range_with_len}
use Rattle.std.proofs.lemmas.Bool.{ne_eqb}
use Rattle.raw_flow.specs.declared.node.Node.{Node}
use Rattle.raw_flow.specs.Flows.{Dataflow}
use Rattle.raw_term.proofs.Terms.{some_is, none_some}
use Rattle.raw_term.specs.declared.verdict.Verdict.{Verdict}
use Rattle.raw_term.specs.declared.verdict.Verdict.TheVariants.{Words}
use Rattle.raw_term.specs.TermMachine.{TermState}
use Rattle.raw_term.specs.Claims.{claim_terms, claimed}
use Rattle.raw_term.specs.Verdicts.{of_words, IsOfWords}
use Rattle.raw_row_terms.specs.RowClaims.{compared_within, IsOfTerms}

pub terms_say : {E : Type 0} (s : TermState) (flow : Dataflow) (got : List ℕ) → length got ≡ length flow.outs → (nodes : List Node) (own wanted : List ℕ) → nodes ≡ (claim_terms s flow).nodes → own ≡ got → wanted ≡ claimed s flow
    → (r : Result Verdict E) → IfOk r (IsOfTerms nodes own wanted) → IfOk r (IsOfWords s flow got)
terms_say s flow got many nodes own wanted same mine claims (Err e) h = tt
terms_say s flow got many nodes own wanted same mine claims (Ok v) h =
    let whole : IsOfTerms (claim_terms s flow).nodes got (claimed s flow) v =
    subst (λ xs. IsOfTerms (claim_terms s flow).nodes got xs v) claims (subst (λ ys. IsOfTerms (claim_terms s flow).nodes ys wanted v) mine (subst (λ ns. IsOfTerms ns own wanted v) same h)) in
    let words : compared_within (claim_terms s flow).nodes got (claimed s flow) ≡ of_words s flow got =
    sym (ap (λ b. cond b (compared_within (claim_terms s flow).nodes got (claimed s flow)) (Words (length got) (length flow.outs))) (eq-eqb (length got) (length flow.outs) many)) in
    ⊎_elim (λ direct. inl (direct ∙ words)) (λ by. inr ((by.0.0, sym words ∙ by.0.1), by.1)) whole

-- the first number from k on of which a test holds
pub find_step : (f : ℕ → Bool) (k n : ℕ) → k < n → find f (range_with_len k (n - k)) ≡ cond (f k) (Some k) (find f (range_with_len (k + 1) (n - (k + 1))))
find_step f k n lt = let one : n - k ≡ suc (n - (k + 1)) = omega (arith, lt) in ap (λ m. find f (range_with_len k m)) one

pub find_here : (f : ℕ → Bool) (k n : ℕ) (whole : Option ℕ) → k < n → find f (range_with_len k (n - k)) ≡ whole → f k ≡ true → Some k ≡ whole
find_here f k n whole lt e is = sym (find_step f k n lt ∙ ap (λ b. cond b (Some k) (find f (range_with_len (k + 1) (n - (k + 1))))) is) ∙ e

pub find_later : (f : ℕ → Bool) (k n : ℕ) (whole : Option ℕ) → k < n → find f (range_with_len k (n - k)) ≡ whole → f k ≡ false → find f (range_with_len (k + 1) (n - (k + 1))) ≡ whole
find_later f k n whole lt e is = sym (find_step f k n lt ∙ ap (λ b. cond b (Some k) (find f (range_with_len (k + 1) (n - (k + 1))))) is) ∙ e

pub other_count : (a b : ℕ) → (a ≡ b → ⊥) → not (a == b) ≡ true
other_count a b other = ap (λ c. not c) (ne_eqb a b other)

pub same_count : (a b : ℕ) → a ≡ b → not (a == b) ≡ false
same_count a b same = ap (λ c. not c) (eq-eqb a b same)

pub find_within : (f : ℕ → Bool) (k n p : ℕ) → find f (range_with_len k n) ≡ Some p → p < k + n
find_within f k zero p e = none_some p e
find_within f k (suc n) p e = by (f k) e (λ g. find_within f (k + 1) n p g) where
  by : (b : Bool) → cond b (Some k) (find f (range_with_len (k + 1) n)) ≡ Some p → (find f (range_with_len (k + 1) n) ≡ Some p → p < k + 1 + n) → p < k + suc n
  by true g later = let same : k ≡ p = some_is k p g in omega (arith, same)
  by false g later = omega (arith, later g)
