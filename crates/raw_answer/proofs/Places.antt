-- What is read place by place has one answer.
use Rattle.std.proofs.Common.{◌≡◌, ◌⊎◌, ◌∙◌, ℕ, zero, suc, ◌+◌, ◌<◌, ◌≤◌, Option, Some, None, refl, sym, ap, subst, arith, inl, inr, ⊎_elim}
use Rattle.std.proofs.lemmas.Bool.{cases_lt}
use Rattle.std.proofs.lemmas.Option.{none-some, same_Some}
use Rattle.raw_answer.specs.OneAnswer.{HasOneAnswer}
use Rattle.raw_answer.specs.Places.{AreFaultless, IsMeant, IsLeast, IsLeastFrom}

-- one place more
pub more_faultless : {K : Type 0} (fault : ℕ → Option K) (n : ℕ) → AreFaultless fault n → fault n ≡ None → AreFaultless fault (n + 1)
more_faultless fault n before none k below =
    ⊎_elim
    (λ (less : k < n). before k less)
    (λ (after : n ≤ k). let same : k ≡ n = omega (arith, below, after) in subst (λ j. fault j ≡ None) (sym same) none)
    (cases_lt k n)

module _ {K : Type 0} (fault : ℕ → Option K) (last : ℕ) where
  abbrev HasLeast : Type 0
  HasLeast = (k : ℕ) × (kind : K) × IsLeast fault last k kind

  -- nothing is wrong at the first places, or some place is the least faulty one
  one_more : (n : ℕ) → n ≤ last → AreFaultless fault n → (o : Option K) → fault n ≡ o → AreFaultless fault (suc n) ⊎ HasLeast
  one_more n l before None e = let next : n + 1 ≡ suc n = omega arith in inl (subst (AreFaultless fault) next (more_faultless fault n before e))
  one_more n l before (Some kind) e = inr (n, kind, record { within = l; here = e; before = before })

  search_upto : (n : ℕ) → n ≤ last + 1 → AreFaultless fault n ⊎ HasLeast
  search_upto zero l = inl (λ k below. absurd (omega (arith, below)))
  search_upto (suc n) l =
      ⊎_elim (λ (before : AreFaultless fault n). one_more n (omega (arith, l)) before (fault n) refl) (λ (least : HasLeast). inr least) (search_upto n (omega (arith, l)))

  -- a fault before the least faulty place
  clash : (j k : ℕ) (a b : K) → j < k → IsLeast fault last j a → IsLeast fault last k b → ⊥
  clash j k a b less one other = none-some a (sym (other.before j less) ∙ one.here)

  same_place : (j k : ℕ) (a b : K) → IsLeast fault last j a → IsLeast fault last k b → j ≡ k
  same_place j k a b one other =
      ⊎_elim
      (λ (less : j < k). absurd (clash j k a b less one other))
      (λ (after : k ≤ j). ⊎_elim (λ (less : k < j). absurd (clash k j b a less other one)) (λ (same : j ≤ k). omega (arith, after, same)) (cases_lt k j))
      (cases_lt j k)

  -- there is one answer, where what is given is valid if no place is faulty
  pub one_answer : {T : Type 0} (from : ℕ) (given : T) (IsValid : T → Type 0) → (AreFaultless fault (last + 1) → IsValid given)
      → HasOneAnswer (IsMeant fault last given) (IsLeastFrom fault last from) IsValid
  one_answer from given IsValid valid = record {
    some = ⊎_elim
        (λ (faultless : AreFaultless fault (last + 1)). inl (given, record { faultless = faultless; is = refl }))
        (λ (least : HasLeast). inr (least.0 + 1 + from, least.1, (least.0, refl, least.2)))
        (search_upto (last + 1) (omega arith));
    valid = λ x means. subst IsValid (sym means.is) (valid means.faultless);
    one_meaning = λ a b one other. one.is ∙ sym other.is;
    one_fault = λ i j a b one other.
        let place = same_place one.0 other.0 a b one.2 other.2 in
        (one.1 ∙ ap (λ k. k + 1 + from) place ∙ sym other.1, same_Some a b (sym one.2.here ∙ ap fault place ∙ other.2.here));
    not_both = λ x line kind means least. none-some kind (sym (means.faultless least.0 (let within = least.2.within in omega (arith, within))) ∙ least.2.here);
  }
