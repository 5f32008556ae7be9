use Rattle.std.proofs.Common.{◌≡◌, ◌*◌, ◌≤◌, ◌++◌}
use Rattle.std.specs.List.{flat_map, range_with_len}
use Rattle.raw_asm.specs.Tokens.{section_lines}
use Rattle.raw_lines.specs.Places.{place_in}
use Rattle.raw_lines.specs.Lines.{numbers_of_line}
use Rattle.raw_lines.proofs.telling.push_number_lines.Given as goal

abbrev pub invariant-loop-line : goal.invariant-loop-line
invariant-loop-line l = record {
  place : l.place ≡ place_in l.kind (section_lines l.section) l.line;
  bound : l.place ≤ 2 * l.line;
  text : l.bytes.items ≡ l.fn.bytes.items ++ flat_map (numbers_of_line l.kind l.processor l.section.from (section_lines l.section)) (range_with_len 0 l.line);
}
