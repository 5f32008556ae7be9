use Rattle.std.proofs.Common.{◌≡◌, ◌++◌, drop}
use Rattle.std.specs.Prelude.{string_bytes}
use Rattle.raw_text.specs.Lines.{written_lines}
use Rattle.raw_tile_asm.specs.Listing.{listed_lines, listing}
use Rattle.raw_tile_asm.proofs.listing.lines_of.Given as goal

abbrev pub invariant-loop-place : goal.invariant-loop-place
invariant-loop-place l = string_bytes l.text ++ written_lines (listed_lines l.place (drop l.place l.code)) ≡ listing l.code
