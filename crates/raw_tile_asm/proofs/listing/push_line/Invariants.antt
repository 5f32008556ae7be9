use Rattle.std.proofs.Common.{◌≡◌, ◌++◌, drop}
use Rattle.std.specs.Prelude.{string_bytes}
use Rattle.raw_tile_isa.specs.Table.{row_of}
use Rattle.raw_tile_asm.specs.Listing.{line_text}
use Rattle.raw_tile_asm.proofs.Appending.{rest_text}
use Rattle.raw_tile_asm.proofs.listing.push_line.Given as goal

abbrev pub invariant-loop-k : goal.invariant-loop-k
invariant-loop-k l = string_bytes l.text ++ rest_text l.ins l.place l.k (drop l.k (row_of l.ins.op).operands) ≡ string_bytes l.fn.text ++ line_text l.ins l.place
