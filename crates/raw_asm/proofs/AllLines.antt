-- The lines of a section, one line on.
use Rattle.std.proofs.Common.{◌≡◌, ℕ, ◌+◌, ◌<◌, List, [], ◌++◌, length, get_or, None, Ok, refl, ap, add-one, below_more}
use Rattle.std.specs.Result.{result_err}
use Rattle.std.proofs.lemmas.List.Sums.{sum_by_more}
use Rattle.raw_asm.specs.Language.{Language}
use Rattle.raw_asm.specs.Section.{place_of, size_of, line_code, code_upto, AreFaultless}

module _ {I : Type 0} (language : Language I) (lines : List (List (List ℕ))) where
  pub code_next : (k : ℕ) (code : List I) → line_code language lines k ≡ Ok code → code_upto language lines (k + 1) ≡ code_upto language lines k ++ code
  code_next k code e = rw (add-one, e) refl

  pub faultless_next : (k : ℕ) (code : List I) → line_code language lines k ≡ Ok code → AreFaultless language lines k → AreFaultless language lines (k + 1)
  faultless_next k code e before = below_more (λ j. result_err (line_code language lines j) ≡ None) k before (ap result_err e)

  pub place_next : (k : ℕ) → k < length lines → place_of language lines (k + 1) ≡ place_of language lines k + size_of language (get_or lines k [])
  place_next k lt = sum_by_more (size_of language) lines k [] lt
