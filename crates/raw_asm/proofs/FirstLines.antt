-- The code of the first lines, where none of them has a fault.
use Rattle.std.proofs.Common.{◌≡◌, ℕ, zero, suc, ◌+◌, ◌<◌, ◌≤◌, Bool, true, false, cond, List, [], ◌++◌, length, get_or, take, Option, Some, None, Result, Ok, Err, All, refl, sym, ap, ◌∙◌, arith, ⊎_elim, add-one, length-append}
use Rattle.std.specs.Prelude.{nat_le}
use Rattle.std.specs.Result.{result_err}
use Rattle.std.proofs.lemmas.Bool.{cases_lt}
use Rattle.std.proofs.lemmas.Bool.Decides.{nat_tests}
use Rattle.std.proofs.lemmas.List.{take_all, get_or_past}
use Rattle.std.proofs.lemmas.List.Elements.{All-nil, All-append, All-weaker, All-contains_itself}
use Rattle.std.proofs.lemmas.List.Sums.{sum_by_more}
use Rattle.std.specs.List.{sum_by, Contains}
use Rattle.raw_asm.specs.declared.kind.AsmKind.{AsmKind}
use Rattle.raw_asm.specs.declared.kind.AsmKind.TheVariants.{TooLong}
use Rattle.raw_asm.specs.Names.{label_of, statement_of}
use Rattle.raw_asm.specs.Faults.{◌>>=◌, unless_fault}
use Rattle.raw_asm.specs.Language.{Language}
use Rattle.raw_asm.specs.Section.{size_of, place_of, label_place, label_fault, fitting, line_code, code_upto, AreFaultless}
use Rattle.raw_asm.specs.FirstLines.{IsGiven, KeepsSizes}

-- what a line without a fault gives, and what is known of it
record LineGives {I : Type 0} (language : Language I) (lines : List (List (List ℕ))) (k : ℕ) : Type 0 where
  pub code : List I
  pub here : line_code language lines k ≡ Ok code
  pub statement : language.code (label_place language lines) (place_of language lines k) (statement_of (get_or lines k [])) ≡ Ok code
  pub fits : place_of language lines k + length code ≤ language.most

fitting_gives : {I : Type 0} (most place : ℕ) (code : List I) (b : Bool) → nat_le (place + length code) most ≡ b → result_err (cond b (Ok code) (Err TooLong)) ≡ None
    → (cond b (Ok code) (Err TooLong) ≡ Ok code) × (place + length code ≤ most)
fitting_gives most place code true fits e = (refl, grind (arith, nat_tests))
fitting_gives most place code false fits e = absurd (cc)

code_gives : {I : Type 0} (most place : ℕ) (fault : Option AsmKind) (c : Result (List I) AsmKind) → result_err (unless_fault fault (c >>= λ code. fitting most place code)) ≡ None
    → (code : List I) × (unless_fault fault (c >>= λ code. fitting most place code) ≡ Ok code) × (c ≡ Ok code) × (place + length code ≤ most)
code_gives most place (Some kind) c e = absurd (cc)
code_gives most place None (Err kind) e = absurd (cc)
code_gives most place None (Ok code) e =
    let gives = fitting_gives most place code (nat_le (place + length code) most) refl e in
    (code, gives.0, refl, gives.1)

line_gives : {I : Type 0} (language : Language I) (lines : List (List (List ℕ))) (k : ℕ) → result_err (line_code language lines k) ≡ None → LineGives language lines k
unfolding line_code
line_gives language lines k e =
    let gives = code_gives language.most (place_of language lines k) (label_fault lines k (label_of (get_or lines k [])))
    (language.code (label_place language lines) (place_of language lines k) (statement_of (get_or lines k []))) e in
    record { code = gives.0; here = gives.1; statement = gives.2; fits = gives.3 }

module _ {I : Type 0} (language : Language I) (lines : List (List (List ℕ))) where
  last_gives : (n : ℕ) → AreFaultless language lines (suc n) → LineGives language lines n
  last_gives n faultless = line_gives language lines n (faultless n (omega arith))

  code_more : (n : ℕ) (gives : LineGives language lines n) → code_upto language lines (suc n) ≡ code_upto language lines n ++ gives.code
  code_more n gives = rw gives.here refl

  before : (n : ℕ) → AreFaultless language lines (suc n) → AreFaultless language lines n
  before n faultless k below = faultless k (omega arith)

  -- each instruction of the first lines is given by a statement
  pub each_given : (n : ℕ) → AreFaultless language lines n → All (IsGiven language) (code_upto language lines n)
  each_given zero faultless = All-nil (IsGiven language)
  each_given (suc n) faultless =
      let gives = last_gives n faultless in
      let here : All (IsGiven language) gives.code = All-weaker (Contains gives.code) (IsGiven language)
      (λ ins among. record { labels = label_place language lines; place = place_of language lines n; statement = statement_of (get_or lines n []); code = gives.code; gives = gives.statement; among = among })
      gives.code (All-contains_itself gives.code) in
      rw (code_more n gives) (All-append (IsGiven language) (code_upto language lines n) gives.code (each_given n (before n faultless)) here)

  module _ (keeps : KeepsSizes language) where
    place_more : (n : ℕ) → place_of language lines (suc n) ≡ place_of language lines n + size_of language (get_or lines n [])
    place_more n =
        ⊎_elim {C = place_of language lines (suc n) ≡ place_of language lines n + size_of language (get_or lines n [])}
        (λ (within : n < length lines). ap (place_of language lines) (sym (add-one n)) ∙ sum_by_more (size_of language) lines n [] within)
        (λ (past : length lines ≤ n).
        let nothing = keeps.nothing in
        let empty : size_of language (get_or lines n []) ≡ 0 = rw (get_or_past lines n [] past) nothing in
        let same : take (suc n) lines ≡ take n lines = take_all (suc n) lines (omega arith) ∙ sym (take_all n lines past) in
        ap (λ front. sum_by (size_of language) front) same ∙ omega (arith, empty))
        (cases_lt n (length lines))

    length_is_place : (n : ℕ) → AreFaultless language lines n → length (code_upto language lines n) ≡ place_of language lines n
    length_is_place zero faultless = refl
    length_is_place (suc n) faultless =
        let gives = last_gives n faultless in
        let so_far = length_is_place n (before n faultless) in
        let size = keeps.sizes (label_place language lines) (place_of language lines n) (statement_of (get_or lines n [])) gives.code gives.statement in
        omega (arith, ap length (code_more n gives), length-append (code_upto language lines n) gives.code, so_far, size, place_more n)

    -- the instructions of the first lines are few
    pub length_fits : (n : ℕ) → AreFaultless language lines n → length (code_upto language lines n) ≤ language.most
    length_fits zero faultless = omega arith
    length_fits (suc n) faultless =
        let gives = last_gives n faultless in
        let so_far = length_is_place n (before n faultless) in
        omega (arith, ap length (code_more n gives), length-append (code_upto language lines n) gives.code, so_far, gives.fits)
