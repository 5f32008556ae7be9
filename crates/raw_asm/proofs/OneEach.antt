-- Lines that give one instruction each mean the program of these.
use Rattle.std.proofs.Common.{◌≡◌, ℕ, zero, suc, ◌+◌, ◌<◌, ◌≤◌, Bool, true, false, cond, List, [], ◌∷◌, length, get_or, take, Some, None, Ok, refl, sym, ap, ◌∙◌, arith, add-one}
use Rattle.std.specs.Prelude.{codes, nat_le}
use Rattle.std.specs.Result.{result_err}
use Rattle.std.proofs.lemmas.Bool.Decides.{nat_tests}
use Rattle.std.proofs.lemmas.List.{take_more, take_all}
use Rattle.std.proofs.lemmas.List.Sums.{sum_by_more}
use Rattle.raw_asm.specs.Names.{label_of, statement_of, ends_with}
use Rattle.raw_asm.specs.Language.{Language}
use Rattle.raw_asm.specs.Section.{size_of, place_of, label_place, label_fault, line_code, code_upto, IsMeaning}
use Rattle.raw_asm.specs.OneEach.{AreOneEach}

-- a line without a label is its statement
is_whole : (line : List (List ℕ)) → label_of line ≡ None → statement_of line ≡ line
is_whole [] none = refl
is_whole (token ∷ tokens) none = by_test _ (ends_with (codes ":") token) none
  where
    by_test : (name : List ℕ) (label : Bool) → cond label (Some name) None ≡ None → cond label tokens (token ∷ tokens) ≡ token ∷ tokens
    by_test name true e = absurd (cc)
    by_test name false e = refl

module _ {I : Type 0} (language : Language I) (lines : List (List (List ℕ))) (program : List I) (each : AreOneEach language lines program) where
  whole_at : (k : ℕ) → k < length program → statement_of (get_or lines k []) ≡ get_or lines k []
  whole_at k lt = is_whole (get_or lines k []) (each.no_label k lt)

  place_at : (k : ℕ) → k ≤ length program → place_of language lines k ≡ k
  place_at zero le = refl
  place_at (suc k) le =
      let count = each.count in
      let more = sum_by_more (size_of language) lines k [] (omega (arith, count)) in
      let one : size_of language (get_or lines k []) ≡ 1 = ap language.size (whole_at k (omega arith)) ∙ each.size k (omega arith) in
      let so_far = place_at k (omega arith) in
      ap (place_of language lines) (sym (add-one k)) ∙ more ∙ omega arith

  code_at : (k : ℕ) (ins : I) → k < length program → line_code language lines k ≡ Ok (get_or program k ins ∷ [])
  unfolding line_code label_fault
  code_at k ins lt =
      let few = each.few in
      let fits : nat_le (k + 1) language.most ≡ true = grind (arith, nat_tests) in
      rw (each.no_label k lt, whole_at k lt, place_at k (omega arith), each.code (label_place language lines) k ins lt, fits) refl

  code_so_far : (k : ℕ) (ins : I) → k ≤ length program → code_upto language lines k ≡ take k program
  code_so_far zero ins le = refl
  code_so_far (suc k) ins le =
      rw (code_at k ins (omega arith), code_so_far k ins (omega arith)) (sym (take_more program k ins (omega arith)) ∙ ap (λ n. take n program) (add-one k))

  means_with : I → IsMeaning language lines program
  means_with ins = let count = each.count in record {
    faultless = λ k lt. ap result_err (code_at k ins (omega (arith, count)));
    code = sym (ap (code_upto language lines) count ∙ code_so_far (length program) ins (omega arith) ∙ take_all (length program) program (omega arith));
  }

-- lines that give one instruction each mean the program of these
pub means : {I : Type 0} (language : Language I) (lines : List (List (List ℕ))) (program : List I) → AreOneEach language lines program → IsMeaning language lines program
means language lines [] each = let none = each.count in record { faultless = λ k lt. absurd (omega arith); code = sym (ap (code_upto language lines) none) }
means language lines (ins ∷ program) each = means_with language lines (ins ∷ program) each ins
