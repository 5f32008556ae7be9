-- When a section is refused, and that there is exactly one answer to each.
use Rattle.std.specs.Prelude.{◌≡◌, ◌⊎◌, ℕ, ◌+◌, List}
use Rattle.raw_asm.specs.declared.kind.AsmKind.{AsmKind}
use Rattle.raw_asm.specs.declared.kind.AsmRefusal.{AsmRefusal}
use Rattle.raw_asm.specs.declared.kind.AsmRefusal.TheVariants.{At, Memory}
use Rattle.raw_asm.specs.Language.{Language}
use Rattle.raw_asm.specs.Section.{IsMeaning, IsLeastFault}

-- a refusal names the least faulty line and its fault, or is want of memory; the lines of the section
-- stand behind so many lines of the text, which are numbered from 1
abbrev pub IsCause : {I : Type 0} → Language I → List (List (List ℕ)) → ℕ → AsmRefusal → Type 0
IsCause language lines before (At line kind) = (k : ℕ) × (line ≡ before + k + 1) × IsLeastFault language lines k kind
IsCause language lines before Memory = Unit {0}

-- some line is the least faulty one
abbrev pub HasLeastFault : {I : Type 0} → Language I → List (List (List ℕ)) → Type 0
HasLeastFault language lines = (k : ℕ) × (kind : AsmKind) × IsLeastFault language lines k kind

-- the lines have exactly one meaning or exactly one least fault, and not both
pub record HasOneAnswer {I : Type 0} (language : Language I) (lines : List (List (List ℕ))) : Type 0 where
  pub some : ((program : List I) × IsMeaning language lines program) ⊎ HasLeastFault language lines
  pub one_meaning : (a b : List I) → IsMeaning language lines a → IsMeaning language lines b → a ≡ b
  pub one_place : (j k : ℕ) (a b : AsmKind) → IsLeastFault language lines j a → IsLeastFault language lines k b → j ≡ k
  pub one_kind : (j k : ℕ) (a b : AsmKind) → IsLeastFault language lines j a → IsLeastFault language lines k b → a ≡ b
  pub not_both : (program : List I) (k : ℕ) (kind : AsmKind) → IsMeaning language lines program → IsLeastFault language lines k kind → ⊥
