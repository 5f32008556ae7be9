-- A set before a mark, and what is said behind it, have one answer, where the set and what is said of it have one each.
use Rattle.std.proofs.Common.{◌≡◌, ◌⊎◌, ◌∙◌, ℕ, ◌+◌, List, length, take, Option, Some, None, refl, sym, ap, subst, inl, inr, ⊎_elim}
use Rattle.std.proofs.lemmas.Option.{none-some, same_Some}
use Rattle.raw_answer.specs.OneAnswer.{HasOneAnswer}
use Rattle.raw_model.specs.Program.{ProgramSet, IsSet}
use Rattle.raw_set_text.specs.declared.kind.SetKind.{SetKind}
use Rattle.raw_set_text.specs.declared.kind.SetKind.TheVariants.{Missing}
use Rattle.raw_set_text.specs.Meaning.{IsMeaning, IsFault, IsOneSet}
use Rattle.raw_claim_text.specs.Marked.{mark_in, FaultBefore, IsBehind, IsFaultBehind}

module _ (one : (lines : List (List (List ℕ))) → IsOneSet lines) (word : List ℕ) (lines : List (List (List ℕ))) where
  -- there is one mark, and one set before it
  same_before : (p q : ℕ) (s t : ProgramSet) → mark_in word lines ≡ Some p → mark_in word lines ≡ Some q → IsMeaning (take p lines) s → IsMeaning (take q lines) t → (p ≡ q) × (s ≡ t)
  same_before p q s t x y a b =
      let place : p ≡ q = same_Some p q (sym x ∙ y) in
      (place, (one (take q lines)).one_meaning s t (subst (λ k. IsMeaning (take k lines) s) place a) b)

  -- the set has one fault, or the mark is missing, and then nothing is said
  one_before : (mark : Option ℕ) (i j : ℕ) (a b : SetKind) → FaultBefore mark lines i a → FaultBefore mark lines j b → (i ≡ j) × (a ≡ b)
  one_before (Some place) i j a b x y = (one (take place lines)).one_fault i j a b x y
  one_before None i j a b (inl x) (inl y) = (one lines).one_fault i j a b x y
  one_before None i j a b (inl x) (inr y) = absurd ((one lines).not_both y.set i a y.meaning x)
  one_before None i j a b (inr x) (inl y) = absurd ((one lines).not_both x.set j b x.meaning y)
  one_before None i j a b (inr x) (inr y) = (x.line_is ∙ sym y.line_is, x.kind_is ∙ sym y.kind_is)

  not_before : (mark : Option ℕ) (place : ℕ) (s : ProgramSet) (line : ℕ) (kind : SetKind) → mark ≡ Some place → IsMeaning (take place lines) s → FaultBefore mark lines line kind → ⊥
  not_before None place s line kind is means fault = none-some place is
  not_before (Some other) place s line kind is means fault =
      (one (take place lines)).not_both s line kind means (subst (λ k. IsFault (take k lines) line kind) (same_Some other place is) fault)

  -- what is said, and what is wrong with it; a fault is one of the set, as a kind of these faults, or one of what is said
  module _ {T K : Type 0} (Tail : List (List (List ℕ)) → ℕ → ProgramSet → T → Type 0) (Wrong : List (List (List ℕ)) → ℕ → ProgramSet → ℕ → K → Type 0) (IsTail : ProgramSet → T → Type 0)
      (tails : (place : ℕ) (s : ProgramSet) → HasOneAnswer (Tail lines place s) (Wrong lines place s) (IsTail s))
      (Fault : ℕ → K → Type 0) (as_kind : SetKind → K)
      (of_before : (line : ℕ) (kind : SetKind) → FaultBefore (mark_in word lines) lines line kind → Fault line (as_kind kind))
      (of_tail : (line : ℕ) (kind : K) → IsFaultBehind word Wrong lines line kind → Fault line kind)
      (either : (line : ℕ) (kind : K) → Fault line kind
      → ((fault : SetKind) × (kind ≡ as_kind fault) × FaultBefore (mark_in word lines) lines line fault) ⊎ IsFaultBehind word Wrong lines line kind)
    where
      abbrev Means : ProgramSet × T → Type 0
      Means said = IsBehind word Tail lines said

      abbrev Told : ℕ → K → Type 0
      Told line kind = ((fault : SetKind) × (kind ≡ as_kind fault) × FaultBefore (mark_in word lines) lines line fault) ⊎ IsFaultBehind word Wrong lines line kind

      abbrev Faulty : Type 0
      Faulty = (line : ℕ) × (kind : K) × Fault line kind

      before : (mark : Option ℕ) → mark_in word lines ≡ mark → (line : ℕ) (kind : SetKind) → FaultBefore mark lines line kind → Faulty
      before mark is line kind fault = (line, as_kind kind, of_before line kind (subst (λ m. FaultBefore m lines line kind) (sym is) fault))

      some_at : (mark : Option ℕ) → mark_in word lines ≡ mark → ((said : ProgramSet × T) × Means said) ⊎ Faulty
      some_at None is =
          ⊎_elim
          (λ (means : (s : ProgramSet) × IsMeaning lines s). inr (before None is (length lines + 1) Missing (inr (record { set = means.0; meaning = means.1; line_is = refl; kind_is = refl }))))
          (λ (fault : (line : ℕ) × (kind : SetKind) × IsFault lines line kind). inr (before None is fault.0 fault.1 (inl fault.2)))
          (one lines).some
      some_at (Some place) is =
          ⊎_elim
          (λ (means : (s : ProgramSet) × IsMeaning (take place lines) s).
          ⊎_elim
          (λ (tail : (x : T) × Tail lines place means.0 x). inl ((means.0, tail.0), record { place = place; mark = is; set_is = means.1; tail_is = tail.1 }))
          (λ (fault : (line : ℕ) × (kind : K) × Wrong lines place means.0 line kind).
          inr (fault.0, fault.1, of_tail fault.0 fault.1 (record { place = place; mark = is; set = means.0; set_is = means.1; wrong = fault.2 })))
          (tails place means.0).some)
          (λ (fault : (line : ℕ) × (kind : SetKind) × IsFault (take place lines) line kind). inr (before (Some place) is fault.0 fault.1 fault.2))
          (one (take place lines)).some

      one_meaning : (a b : ProgramSet × T) → Means a → Means b → a ≡ b
      one_meaning a b x y =
          let same = same_before x.place y.place a.0 b.0 x.mark y.mark x.set_is y.set_is in
          let tail : a.1 ≡ b.1 = (tails y.place b.0).one_meaning a.1 b.1 (subst (λ (q : ℕ × ProgramSet). Tail lines q.0 q.1 a.1) (λ t. (same.0 t, same.1 t)) x.tail_is) y.tail_is in
          λ t. (same.1 t, tail t)

      one_told : (i j : ℕ) (a b : K) → Told i a → Told j b → (i ≡ j) × (a ≡ b)
      one_told i j a b (inl x) (inl y) = let same = one_before (mark_in word lines) i j x.0 y.0 x.2 y.2 in (same.0, x.1 ∙ ap as_kind same.1 ∙ sym y.1)
      one_told i j a b (inl x) (inr y) = absurd (not_before (mark_in word lines) y.place y.set i x.0 y.mark y.set_is x.2)
      one_told i j a b (inr x) (inl y) = absurd (not_before (mark_in word lines) x.place x.set j y.0 x.mark x.set_is y.2)
      one_told i j a b (inr x) (inr y) =
          let same = same_before x.place y.place x.set y.set x.mark y.mark x.set_is y.set_is in
          (tails y.place y.set).one_fault i j a b (subst (λ (q : ℕ × ProgramSet). Wrong lines q.0 q.1 i a) (λ t. (same.0 t, same.1 t)) x.wrong) y.wrong

      not_told : (a : ProgramSet × T) (line : ℕ) (kind : K) → Means a → Told line kind → ⊥
      not_told a line kind x (inl y) = not_before (mark_in word lines) x.place a.0 line y.0 x.mark x.set_is y.2
      not_told a line kind x (inr y) =
          let same = same_before y.place x.place y.set a.0 y.mark x.mark y.set_is x.set_is in
          (tails x.place a.0).not_both a.1 line kind x.tail_is (subst (λ (q : ℕ × ProgramSet). Wrong lines q.0 q.1 line kind) (λ t. (same.0 t, same.1 t)) y.wrong)

      pub one_behind : HasOneAnswer Means Fault (λ (said : ProgramSet × T). IsSet said.0 × IsTail said.0 said.1)
      one_behind = record {
        some = some_at (mark_in word lines) refl;
        valid = λ said x. ((one (take x.place lines)).valid said.0 x.set_is, (tails x.place said.0).valid said.1 x.tail_is);
        one_meaning = one_meaning;
        one_fault = λ i j a b x y. one_told i j a b (either i a x) (either j b y);
        not_both = λ said line kind x fault. not_told said line kind x (either line kind fault);
      }

  -- where the kinds of what is said are those of a set
  pub one_claimed : {T : Type 0} (Tail : List (List (List ℕ)) → ℕ → ProgramSet → T → Type 0) (Wrong : List (List (List ℕ)) → ℕ → ProgramSet → ℕ → SetKind → Type 0) (IsTail : ProgramSet → T → Type 0)
      → ((place : ℕ) (s : ProgramSet) → HasOneAnswer (Tail lines place s) (Wrong lines place s) (IsTail s))
      → HasOneAnswer (λ (said : ProgramSet × T). IsBehind word Tail lines said) (λ (line : ℕ) (kind : SetKind). FaultBefore (mark_in word lines) lines line kind ⊎ IsFaultBehind word Wrong lines line kind) (λ (said : ProgramSet × T). IsSet said.0 × IsTail said.0 said.1)
  one_claimed Tail Wrong IsTail tails =
      one_behind Tail Wrong IsTail tails (λ line kind. FaultBefore (mark_in word lines) lines line kind ⊎ IsFaultBehind word Wrong lines line kind) (λ kind. kind)
      (λ line kind fault. inl fault) (λ line kind fault. inr fault)
      (λ line kind fault.
      ⊎_elim (λ (f : FaultBefore (mark_in word lines) lines line kind). inl (kind, refl, f)) (λ (f : IsFaultBehind word Wrong lines line kind). inr f) fault)
