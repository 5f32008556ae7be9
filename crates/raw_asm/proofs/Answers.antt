-- Lines have exactly one meaning or exactly one least fault.
use Rattle.std.proofs.Common.{◌≡◌, ◌⊎◌, ℕ, zero, suc, ◌<◌, ◌≤◌, List, length, Option, Some, None, refl, sym, ◌∙◌, subst, arith, ⊎_elim, inl, inr}
use Rattle.std.specs.Result.{result_err}
use Rattle.std.proofs.lemmas.Bool.{cases_lt}
use Rattle.raw_asm.specs.declared.kind.AsmKind.{AsmKind}
use Rattle.raw_asm.specs.Language.{Language}
use Rattle.raw_asm.specs.Section.{line_code, code_upto, AreFaultless}
use Rattle.raw_asm.specs.Refusal.{HasLeastFault, HasOneAnswer}

module _ {I : Type 0} (language : Language I) (lines : List (List (List ℕ))) where
  abbrev fault_at : ℕ → Option AsmKind
  fault_at k = result_err (line_code language lines k)

  one_more : (n : ℕ) → n < length lines → AreFaultless language lines n → (fault : Option AsmKind) → fault_at n ≡ fault
      → AreFaultless language lines (suc n) ⊎ HasLeastFault language lines
  one_more n lt before None e = inl (λ k below. ⊎_elim (λ (less : k < n). before k less) (λ (more : n ≤ k). let same : k ≡ n = omega arith in subst (λ j. fault_at j ≡ None) (sym same) e) (cases_lt k n))
  one_more n lt before (Some kind) e = inr (n, kind, record { within = lt; here = e; before = before })

  -- none of the first lines has a fault, or some line is the least faulty one
  search_upto : (n : ℕ) → n ≤ length lines → AreFaultless language lines n ⊎ HasLeastFault language lines
  search_upto zero le = inl (λ k below. absurd (omega arith))
  search_upto (suc n) le =
      ⊎_elim
      (λ (before : AreFaultless language lines n). one_more n (omega arith) before (fault_at n) refl)
      (λ (least : HasLeastFault language lines). inr least)
      (search_upto n (omega arith))

  clash : (k : ℕ) (kind : AsmKind) → fault_at k ≡ None → fault_at k ≡ Some kind → ⊥
  clash k kind none some = absurd (cc (none, some))

  pub one_answer : HasOneAnswer language lines
  one_answer = record {
    some = ⊎_elim
        (λ (whole : AreFaultless language lines (length lines)). inl (code_upto language lines (length lines), record { faultless = whole; code = refl }))
        (λ (least : HasLeastFault language lines). inr least)
        (search_upto (length lines) (omega arith));
    one_meaning = λ a b is other. is.code ∙ sym other.code;
    one_place = λ j k a b one other.
        ⊎_elim
        (λ (less : j < k). absurd (clash j a (other.before j less) one.here))
        (λ (more : k ≤ j). ⊎_elim (λ (less : k < j). absurd (clash k b (one.before k less) other.here)) (λ (same : j ≤ k). omega arith) (cases_lt k j))
        (cases_lt j k);
    one_kind = λ j k a b one other.
        ⊎_elim
        (λ (less : j < k). absurd (clash j a (other.before j less) one.here))
        (λ (more : k ≤ j). ⊎_elim
        (λ (less : k < j). absurd (clash k b (one.before k less) other.here))
        (λ (same : j ≤ k). let equal : j ≡ k = omega arith in cc (one.here, other.here, equal))
        (cases_lt k j))
        (cases_lt j k);
    not_both = λ program k kind is least. clash k kind (is.faultless k least.within) least.here;
  }
