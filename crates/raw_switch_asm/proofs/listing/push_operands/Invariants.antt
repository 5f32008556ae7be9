use Rattle.std.proofs.Common.{◌≡◌, ◌++◌, drop}
use Rattle.std.specs.Prelude.{string_bytes}
use Rattle.raw_switch_isa.specs.Table.{row_of}
use Rattle.raw_switch_asm.specs.Listing.{operands_text}
use Rattle.raw_switch_asm.proofs.Written.{operands_from}
use Rattle.raw_switch_asm.proofs.listing.push_operands.Given as goal

abbrev pub invariant-loop-place : goal.invariant-loop-place
invariant-loop-place l = string_bytes l.text ++ operands_from l.ins l.place (drop l.place (row_of l.ins.op).operands) ≡ string_bytes l.fn.text ++ operands_text l.ins (row_of l.ins.op).operands
