-- A listing is read back as its program.
use Rattle.std.specs.Prelude.{◌≡◌, ◌≤◌, List, length, map, None, IsTrue, All}
use Rattle.raw_text.specs.Lines.{lines_of, tokens_of, first_fault}
use Rattle.raw_asm.specs.Section.{IsMeaning}
use Rattle.raw_switch_isa.specs.declared.limits.TheConstants.{MAX_SWITCH_CODE}
use Rattle.raw_switch_isa.specs.Instruction.{SwitchInstruction, IsSwitchIns}
use Rattle.raw_grid.specs.declared.parts.Ends.{Ends}
use Rattle.raw_switch_asm.specs.Statement.{are_wired}
use Rattle.raw_switch_asm.specs.Language.{switch_language}
use Rattle.raw_switch_asm.specs.Listing.{listing}

-- the listing is a text without a fault, and its lines mean the program
pub record IsReadBack (wired : Ends) (program : List SwitchInstruction) : Type 0 where
  pub faultless : first_fault 1 (lines_of (listing program)) ≡ None
  pub meaning : IsMeaning (switch_language wired) (map tokens_of (lines_of (listing program))) program

-- so is each program within its limit of instructions that keep the rules, for each switch with wires at
-- all ends that they name
abbrev pub EachListingIsReadBack : Type 0
EachListingIsReadBack =
    (wired : Ends) (program : List SwitchInstruction) → length program ≤ MAX_SWITCH_CODE → All IsSwitchIns program
    → All (λ ins. IsTrue (are_wired wired ins)) program → IsReadBack wired program
