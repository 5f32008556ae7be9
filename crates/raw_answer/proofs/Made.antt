-- What is made of what is read has one answer, where what is read has one.
use Rattle.std.proofs.Common.{◌≡◌, ◌⊎◌, ◌∙◌, ℕ, refl, sym, ap, subst, inl, inr, ⊎_elim}
use Rattle.raw_answer.specs.OneAnswer.{HasOneAnswer}
use Rattle.raw_answer.specs.Made.{Makes, MeansTooMuch}

module _ {T U K : Type 0} {Means : T → Type 0} {Fault : ℕ → K → Type 0} {IsValid : T → Type 0} (answer : HasOneAnswer Means Fault IsValid)
    (Fits : T → Type 0) (fits : (x : T) → Fits x ⊎ (Fits x → ⊥)) (made : T → U) (last : ℕ) (why : K) (IsMade : U → Type 0) (valid : (x : T) → IsValid x → Fits x → IsMade (made x))
  where
    abbrev IsFault : ℕ → K → Type 0
    IsFault line kind = Fault line kind ⊎ MeansTooMuch Means Fits last why line kind

    found : (x : T) → Means x → Fits x ⊎ (Fits x → ⊥) → ((y : U) × Makes Means Fits made y) ⊎ ((line : ℕ) × (kind : K) × IsFault line kind)
    found x means (inl fit) = inl (made x, record { meant = x; meaning = means; fits = fit; is = refl })
    found x means (inr none) = inr (last, why, inr (record { meant = x; meaning = means; long = none; line_is = refl; kind_is = refl }))

    one_fault : (i j : ℕ) (a b : K) → IsFault i a → IsFault j b → (i ≡ j) × (a ≡ b)
    one_fault i j a b (inl x) (inl y) = answer.one_fault i j a b x y
    one_fault i j a b (inl x) (inr y) = absurd (answer.not_both y.meant i a y.meaning x)
    one_fault i j a b (inr x) (inl y) = absurd (answer.not_both x.meant j b x.meaning y)
    one_fault i j a b (inr x) (inr y) = (x.line_is ∙ sym y.line_is, x.kind_is ∙ sym y.kind_is)

    not_both : (y : U) (line : ℕ) (kind : K) → Makes Means Fits made y → IsFault line kind → ⊥
    not_both y line kind x (inl fault) = answer.not_both x.meant line kind x.meaning fault
    not_both y line kind x (inr much) = much.long (subst Fits (answer.one_meaning x.meant much.meant x.meaning much.meaning) x.fits)

    pub made_answer : HasOneAnswer (Makes Means Fits made) IsFault IsMade
    made_answer = record {
      some = ⊎_elim
          (λ (means : (x : T) × Means x). found means.0 means.1 (fits means.0))
          (λ (fault : (line : ℕ) × (kind : K) × Fault line kind). inr (fault.0, fault.1, inl fault.2))
          answer.some;
      valid = λ y x. subst IsMade (sym x.is) (valid x.meant (answer.valid x.meant x.meaning) x.fits);
      one_meaning = λ a b x y. x.is ∙ ap made (answer.one_meaning x.meant y.meant x.meaning y.meaning) ∙ sym y.is;
      one_fault = one_fault;
      not_both = not_both;
    }

-- what is seen of it has one answer too
pub seen_answer : {T U K : Type 0} {Means : T → Type 0} {Fault : ℕ → K → Type 0} {IsValid : T → Type 0} → HasOneAnswer Means Fault IsValid → (seen : T → U) (Sees IsSeen : U → Type 0)
    → ((x : T) → Means x → Sees (seen x)) → ((y : U) → Sees y → (x : T) × Means x × (y ≡ seen x)) → ((x : T) → IsValid x → IsSeen (seen x)) → HasOneAnswer Sees Fault IsSeen
seen_answer {T} {U} {K} {Means} {Fault} answer seen Sees IsSeen to of valid = record {
  some = ⊎_elim
      (λ (means : (x : T) × Means x). inl (seen means.0, to means.0 means.1))
      (λ (fault : (line : ℕ) × (kind : K) × Fault line kind). inr fault)
      answer.some;
  valid = λ y s. let x = of y s in subst IsSeen (sym x.2) (valid x.0 (answer.valid x.0 x.1));
  one_meaning = λ a b s t. let x = of a s in let y = of b t in x.2 ∙ ap seen (answer.one_meaning x.0 y.0 x.1 y.1) ∙ sym y.2;
  one_fault = answer.one_fault;
  not_both = λ y line kind s fault. let x = of y s in answer.not_both x.0 line kind x.1 fault;
}
