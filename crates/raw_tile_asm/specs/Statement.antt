-- What a statement of tile text gives.
use Rattle.std.specs.Prelude.{ℕ, ◌&&◌, not, List, [], ◌∷◌, length, Option, Some, None, Result, Ok, Err, slice_index_or, ◌==◌, if◌then◌else◌}
use Rattle.raw_text.specs.Number.{number_of}
use Rattle.raw_tile_isa.specs.declared.table.TileOp.{TileOp}
pub use Rattle.raw_tile_isa.specs.Made.{immediate}
use Rattle.raw_tile_isa.specs.Load.{is_one, load}
use Rattle.raw_tile_isa.specs.Instruction.{Instruction, decode_of, is_network}
use Rattle.raw_asm.specs.declared.kind.AsmKind.{AsmKind}
use Rattle.raw_asm.specs.declared.kind.AsmKind.TheVariants.{UnknownName, BadOperand, BadWord}
use Rattle.raw_asm.specs.Faults.{◌>>=◌, or_fault}
use Rattle.raw_tile_asm.specs.declared.operands.Fields.{Fields}
use Rattle.raw_tile_asm.specs.Operand.{register_of, with_operands}
use Rattle.raw_tile_asm.specs.Form.{Form}

-- all fields 0
abbrev pub no_fields : Fields
no_fields = record { rs = 0; rt = 0; rd = 0; sh = 0; imm = 0; target = 0 }

-- the instruction with these fields
abbrev pub instruction_of : TileOp → Fields → Instruction
instruction_of op f = record { op = op; rs = f.rs; rt = f.rt; rd = f.rd; sh = f.sh; imm = f.imm; target = f.target }

-- the fields that the operands of a form fill; a wrong count of them comes before all else
unfoldable pub operands_of : (List ℕ → Option ℕ) → ℕ → Form → List (List ℕ) → Result Fields AsmKind
operands_of labels place f tokens = if length tokens == length f.operands then with_operands labels place f.operands tokens no_fields else Err BadOperand

-- the instruction of a form with its operands, where there is such a name
unfoldable pub named_code : (List ℕ → Option ℕ) → ℕ → Option Form → List (List ℕ) → Result (List Instruction) AsmKind
named_code labels place None operands = Err UnknownName
named_code labels place (Some f) operands = operands_of labels place f operands >>= λ fields. Ok (instruction_of f.op fields ∷ [])

-- 'li $d, W'; of two instructions the second reads what the first wrote, which a network's register does not keep
abbrev pub load_code : ℕ → ℕ → Result (List Instruction) AsmKind
load_code d w = if is_network d && not (is_one w) then Err BadOperand else Ok (load d w)

-- the operands of 'li' and what they give
unfoldable pub load_statement : List (List ℕ) → Result (List Instruction) AsmKind
load_statement operands =
    if length operands == 2 then (or_fault BadOperand (register_of (slice_index_or operands 0 [])) >>= λ d. or_fault BadOperand (number_of (slice_index_or operands 1 [])) >>= λ w. load_code d w)
    else Err BadOperand

-- the operand of '.word' and the instruction that it encodes
unfoldable pub word_statement : List (List ℕ) → Result (List Instruction) AsmKind
word_statement operands =
    if length operands == 1 then (or_fault BadOperand (number_of (slice_index_or operands 0 [])) >>= λ w. or_fault BadWord (decode_of w) >>= λ i. Ok (i ∷ []))
    else Err BadOperand

-- how many instructions 'li' gives for a number
abbrev pub load_size : Option ℕ → ℕ
load_size None = 1
load_size (Some w) = if is_one w then 1 else 2
