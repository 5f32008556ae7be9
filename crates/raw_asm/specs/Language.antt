-- The statements of an instruction set, and what a label or a number in a statement names.
use Rattle.std.specs.Prelude.{ℕ, List, Option, Result, Ok, Err, if◌then◌else◌}
use Rattle.raw_text.specs.Number.{number_of}
use Rattle.raw_asm.specs.declared.kind.AsmKind.{AsmKind}
use Rattle.raw_asm.specs.declared.kind.AsmKind.TheVariants.{BadOperand, NoLabel}
use Rattle.raw_asm.specs.declared.operand.Target.{Target}
use Rattle.raw_asm.specs.declared.operand.Target.TheVariants.{Label, Number}
use Rattle.raw_asm.specs.Names.{is_name, starts_number}
use Rattle.raw_asm.specs.Faults.{◌>>=◌, or_fault}

-- The text of an instruction set with instructions I. `size` is how many instructions a statement
-- gives, as its tokens alone tell; `code` is what a statement gives where the labels stand at these
-- places and the statement at that one, or its fault; `most` is how many instructions a program has
-- at most.
pub record Language (I : Type 0) : Type 0 where
  pub size : List (List ℕ) → ℕ
  pub code : (List ℕ → Option ℕ) → ℕ → List (List ℕ) → Result (List I) AsmKind
  pub most : ℕ

-- what a token names where a label or a number may stand: a token that begins with a digit or '-' is a
-- number, a name is a label that the section has to define
unfoldable pub target_of : (List ℕ → Option ℕ) → List ℕ → Result Target AsmKind
target_of labels token =
    if starts_number token then (or_fault BadOperand (number_of token) >>= λ n. Ok (Number n))
    else (if is_name token then (or_fault NoLabel (labels token) >>= λ place. Ok (Label place)) else Err BadOperand)
