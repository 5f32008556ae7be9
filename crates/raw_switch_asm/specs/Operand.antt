-- What the operands of a statement say.
use Rattle.std.specs.Prelude.{ℕ, ◌%◌, ◌^◌, Bool, List, [], Option, Some, None, Result, Ok, nat_lt, slice_index_or}
use Rattle.std.specs.Option.{option_map, option_or}
use Rattle.std.specs.List.{position}
use Rattle.raw_asm.specs.declared.kind.AsmKind.{AsmKind}
use Rattle.raw_asm.specs.declared.kind.AsmKind.TheVariants.{BadOperand}
use Rattle.raw_asm.specs.declared.operand.Target.{Target}
use Rattle.raw_asm.specs.declared.operand.Target.TheVariants.{Label, Number}
use Rattle.raw_asm.specs.Faults.{◌>>=◌, or_fault, in_range}
use Rattle.raw_asm.specs.Language.{target_of}
use Rattle.raw_switch_isa.specs.declared.table.SwitchOp.{SwitchOp}
use Rattle.raw_switch_isa.specs.declared.table.SwitchOperand.{SwitchOperand}
use Rattle.raw_switch_isa.specs.declared.instruction.SwitchSource.{SwitchSource}
use Rattle.raw_switch_isa.specs.declared.instruction.SwitchSource.TheVariants.{Register, Input}
use Rattle.raw_switch_isa.specs.Table.{row_of, is_rd, is_src, is_target}
pub use Rattle.raw_switch_isa.specs.Made.{source_field}
use Rattle.raw_switch_asm.specs.Letters.{register_of, end_of}

-- what a move takes its value from: a register or an input
abbrev pub move_source_of : List ℕ → Option SwitchSource
move_source_of token = option_or (option_map Register (register_of token)) (option_map Input (end_of token))

-- the instruction number that a target names: a number has to be below 2^16, and a label's place is
abbrev pub instruction_number : Target → Result ℕ AsmKind
instruction_number (Label place) = Ok (place % 2 ^ 16)
instruction_number (Number n) = in_range (nat_lt n (2 ^ 16)) n

-- the value of the operand at a place, and 0 where the operation has no such operand
abbrev pub field_at : (List ℕ → Result ℕ AsmKind) → List (List ℕ) → Option ℕ → Result ℕ AsmKind
field_at value tokens None = Ok 0
field_at value tokens (Some place) = value (slice_index_or tokens place [])

-- the place of the operand that fills a field
abbrev pub field_place : (SwitchOperand → Bool) → SwitchOp → Option ℕ
field_place is_field op = position is_field (row_of op).operands

-- the field rd by its operand
unfoldable pub rd_of : SwitchOp → List (List ℕ) → Result ℕ AsmKind
rd_of op tokens = field_at (λ token. or_fault BadOperand (register_of token)) tokens (field_place is_rd op)

-- the field src by its operand
unfoldable pub src_of : SwitchOp → List (List ℕ) → Result ℕ AsmKind
src_of op tokens = field_at (λ token. or_fault BadOperand (option_map source_field (move_source_of token))) tokens (field_place is_src op)

-- the field target by its operand, where the labels stand at these places
unfoldable pub target_field : (List ℕ → Option ℕ) → SwitchOp → List (List ℕ) → Result ℕ AsmKind
target_field labels op tokens = field_at (λ token. target_of labels token >>= instruction_number) tokens (field_place is_target op)
