-- What the assembler can give.
use Rattle.std.specs.Prelude.{◌≡◌, ◌≤◌, ℕ, true, List, length, All}
use Rattle.raw_asm.specs.Section.{code_upto, AreFaultless}
use Rattle.raw_switch_isa.specs.declared.limits.TheConstants.{MAX_SWITCH_CODE}
use Rattle.raw_switch_isa.specs.Instruction.{SwitchInstruction, IsSwitchIns}
use Rattle.raw_grid.specs.declared.parts.Ends.{Ends}
use Rattle.raw_switch_asm.specs.Statement.{are_wired}
use Rattle.raw_switch_asm.specs.Language.{switch_language}

-- each instruction keeps the rules and names ends with wires alone, and there are at most 8,192 of them
pub record IsLawful (ends : Ends) (program : List SwitchInstruction) : Type 0 where
  pub each : All IsSwitchIns program
  pub wired : All (λ ins. are_wired ends ins ≡ true) program
  pub few : length program ≤ MAX_SWITCH_CODE

-- so is what the first lines give, of any lines, where none of these has a fault
abbrev pub EachFrontIsLawful : Type 0
EachFrontIsLawful = (wired : Ends) (lines : List (List (List ℕ))) (n : ℕ) → AreFaultless (switch_language wired) lines n
    → IsLawful wired (code_upto (switch_language wired) lines n)
