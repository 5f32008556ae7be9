-- What a statement means.
use Rattle.std.specs.Prelude.{ℕ, Bool, ◌&&◌, ◌==◌, List, [], length, map, drop, Option, Some, Result, Ok, Err, slice_index_or, if◌then◌else◌}
use Rattle.std.specs.List.{list_all, position_or_len}
use Rattle.raw_asm.specs.declared.kind.AsmKind.{AsmKind}
use Rattle.raw_asm.specs.declared.kind.AsmKind.TheVariants.{UnknownName, BadOperand, TwoRegisters, UndeclaredEdge}
use Rattle.raw_asm.specs.Faults.{◌>>=◌, or_fault}
use Rattle.raw_switch_isa.specs.declared.table.SwitchOp.{SwitchOp}
use Rattle.raw_switch_isa.specs.declared.table.SwitchOp.TheVariants.{Nop}
use Rattle.raw_switch_isa.specs.declared.instruction.SwitchSource.{SwitchSource}
use Rattle.raw_switch_isa.specs.Table.{row_of, op_named}
use Rattle.raw_switch_isa.specs.Instruction.{SwitchInstruction}
pub use Rattle.raw_switch_isa.specs.Made.{no_routes}
use Rattle.raw_switch_isa.specs.Ends.{has_end, inputs_of, outputs_of}
use Rattle.raw_grid.specs.declared.parts.Ends.{Ends}
use Rattle.raw_switch_asm.specs.Operand.{rd_of, src_of, target_field}
use Rattle.raw_switch_asm.specs.Route.{is_route, sources_of, route_code, sent_register, are_one}

-- the first token is a route, so that the name is left out
abbrev pub begins_with_route : List (List ℕ) → Bool
begins_with_route tokens = is_route (slice_index_or tokens 0 [])

-- the operation of a statement: nop where the name is left out
unfoldable pub op_of : List (List ℕ) → Option SwitchOp
op_of tokens = if begins_with_route tokens then Some Nop else op_named (slice_index_or tokens 0 [])

-- the operands and routes of a statement
abbrev pub behind_name : List (List ℕ) → List (List ℕ)
behind_name tokens = if begins_with_route tokens then tokens else drop 1 tokens

-- so many operands before the first route, and routes alone from there on
unfoldable pub has_shape : ℕ → List (List ℕ) → Bool
has_shape count tokens = (position_or_len is_route tokens == count) && list_all is_route (drop count tokens)

-- the operation with its operands, without routes; in each row the register stands first, so that the
-- first faulty operand gives its fault
unfoldable pub control_of : (List ℕ → Option ℕ) → SwitchOp → List (List ℕ) → Result SwitchInstruction AsmKind
control_of labels op tokens =
    rd_of op tokens >>= λ register.
    src_of op tokens >>= λ source.
    target_field labels op tokens >>= λ place.
    Ok (record { op = op; rd = register; src = source; target = place; rsel = 0; routes = no_routes })

-- the operation with its operands, where the statement has its shape
unfoldable pub shaped_control : (List ℕ → Option ℕ) → SwitchOp → List (List ℕ) → Result SwitchInstruction AsmKind
shaped_control labels op tokens = if has_shape (length (row_of op).operands) tokens then control_of labels op tokens else Err BadOperand

-- the instruction with routes from these sources
unfoldable pub with_sources : SwitchInstruction → List (Option SwitchSource) → Result SwitchInstruction AsmKind
with_sources ins sources = if are_one sources then Ok (record ins { rsel = sent_register sources; routes = map route_code sources }) else Err TwoRegisters

-- each input and each output that the instruction names has a wire
abbrev pub are_wired : Ends → SwitchInstruction → Bool
are_wired wired ins = list_all (has_end wired.inputs) (inputs_of ins) && list_all (has_end wired.outputs) (outputs_of ins)

-- the instruction, where each end that it names has a wire
unfoldable pub declared_in : Ends → SwitchInstruction → Result SwitchInstruction AsmKind
declared_in wired ins = if are_wired wired ins then Ok ins else Err UndeclaredEdge

-- the instruction of a statement with a token or more, where these ends have wires and the labels
-- stand at these places, or its first fault
unfoldable pub instruction_of : Ends → (List ℕ → Option ℕ) → List (List ℕ) → Result SwitchInstruction AsmKind
instruction_of wired labels tokens =
    or_fault UnknownName (op_of tokens) >>= λ op.
    shaped_control labels op (behind_name tokens) >>= λ control.
    sources_of (drop (length (row_of op).operands) (behind_name tokens)) >>= λ sources.
    with_sources control sources >>= λ ins.
    declared_in wired ins
