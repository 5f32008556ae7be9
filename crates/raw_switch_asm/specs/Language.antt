-- The language of switches.
use Rattle.std.specs.Prelude.{ℕ, List, [], ◌∷◌, length, Option, Result, Ok, ◌==◌, if◌then◌else◌}
use Rattle.raw_asm.specs.declared.kind.AsmKind.{AsmKind}
use Rattle.raw_asm.specs.Faults.{◌>>=◌}
use Rattle.raw_asm.specs.Language.{Language}
use Rattle.raw_switch_isa.specs.declared.limits.TheConstants.{MAX_SWITCH_CODE}
use Rattle.raw_switch_isa.specs.Instruction.{SwitchInstruction}
use Rattle.raw_grid.specs.declared.parts.Ends.{Ends}
use Rattle.raw_switch_asm.specs.Statement.{instruction_of}

-- a statement with a token or more gives one instruction
abbrev pub statement_size : List (List ℕ) → ℕ
statement_size tokens = if length tokens == 0 then 0 else 1

-- the instructions that a statement gives
unfoldable pub statement_code : Ends → (List ℕ → Option ℕ) → List (List ℕ) → Result (List SwitchInstruction) AsmKind
statement_code wired labels tokens =
    if length tokens == 0 then Ok [] else (instruction_of wired labels tokens >>= λ ins. Ok (ins ∷ []))

-- the statements of a switch with wires at these ends, and how many instructions its program has at most
abbrev pub switch_language : Ends → Language SwitchInstruction
switch_language wired = record {
  size = statement_size;
  code = λ labels place tokens. statement_code wired labels tokens;
  most = MAX_SWITCH_CODE;
}
