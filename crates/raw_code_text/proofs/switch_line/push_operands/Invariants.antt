use Rattle.std.proofs.Common.{◌≡◌, ◌+◌, ◌*◌, ◌≤◌, ◌++◌, length, drop}
use Rattle.raw_switch_isa.specs.Table.{row_of}
use Rattle.raw_switch_asm.specs.Listing.{operands_text}
use Rattle.raw_switch_asm.proofs.Written.{operands_from}
use Rattle.raw_code_text.proofs.switch_line.push_operands.Given as goal

abbrev pub invariant-loop-place : goal.invariant-loop-place
invariant-loop-place l = record {
  text : l.line ++ operands_from l.ins l.place (drop l.place (row_of l.ins.op).operands) ≡ l.fn.line ++ operands_text l.ins (row_of l.ins.op).operands;
  len : length l.line ≤ length l.fn.line + 22 * l.place;
}
