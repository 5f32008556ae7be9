use Rattle.std.proofs.Common.{◌≡◌, ◌+◌, ◌*◌, ◌≤◌, ◌++◌, length, drop}
use Rattle.raw_tile_isa.specs.Table.{row_of}
use Rattle.raw_tile_asm.specs.Listing.{line_text}
use Rattle.raw_tile_asm.proofs.Appending.{rest_text}
use Rattle.raw_code_text.proofs.tile_line.push_tile_line.Given as goal

abbrev pub invariant-loop-k : goal.invariant-loop-k
invariant-loop-k l = record {
  text : l.line ++ rest_text l.ins l.place l.k (drop l.k (row_of l.ins.op).operands) ≡ l.fn.line ++ line_text l.ins l.place;
  len : length l.line ≤ length l.fn.line + 6 + 46 * l.k;
}
