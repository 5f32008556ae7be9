-- What the first lines of a section give, where none of them has a fault.
use Rattle.std.specs.Prelude.{◌≡◌, ℕ, ◌≤◌, List, [], length, Option, Ok, All}
use Rattle.std.specs.List.{Contains}
use Rattle.raw_asm.specs.Language.{Language}
use Rattle.raw_asm.specs.Section.{code_upto, AreFaultless}

-- a statement of the language gives this instruction, maybe among others
pub record IsGiven {I : Type 0} (language : Language I) (ins : I) : Type 0 where
  pub labels : List ℕ → Option ℕ
  pub place : ℕ
  pub statement : List (List ℕ)
  pub code : List I
  pub gives : language.code labels place statement ≡ Ok code
  pub among : Contains code ins

-- each statement gives as many instructions as its size tells, and no tokens tell none
pub record KeepsSizes {I : Type 0} (language : Language I) : Type 0 where
  pub nothing : language.size [] ≡ 0
  pub sizes : (labels : List ℕ → Option ℕ) (place : ℕ) (statement : List (List ℕ)) (code : List I) → language.code labels place statement ≡ Ok code → length code ≡ language.size statement

-- each instruction of the first lines is one that a statement gives
abbrev pub EachIsGiven : {I : Type 0} → Language I → Type 0
EachIsGiven language = (lines : List (List (List ℕ))) (n : ℕ) → AreFaultless language lines n → All (IsGiven language) (code_upto language lines n)

-- the instructions of the first lines are no more than a program has at most
abbrev pub AreFew : {I : Type 0} → Language I → Type 0
AreFew language = (lines : List (List (List ℕ))) (n : ℕ) → AreFaultless language lines n → length (code_upto language lines n) ≤ language.most
