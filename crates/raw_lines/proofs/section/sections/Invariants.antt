use Rattle.std.proofs.Common.{◌≡◌}
use Rattle.raw_asm.specs.Tokens.{section_lines}
use Rattle.raw_lines.specs.Sections.{sections_before}
use Rattle.raw_lines.proofs.Opening.{IsOpen}
use Rattle.raw_lines.proofs.section.sections.Given as goal

abbrev pub invariant-loop-place : goal.invariant-loop-place
invariant-loop-place l = record {
  current : IsOpen (section_lines l.lines) l.place l.current;
  so_far : l.sections.items ≡ sections_before (section_lines l.lines) l.place;
}
