use Rattle.std.proofs.Common.{◌≡◌, ℕ, List, take}
use Rattle.std.specs.List.{position}
use Rattle.raw_asm.specs.Tokens.{section_lines}
use Rattle.raw_asm.specs.Section.{has_label}
use Rattle.raw_asm.specs.NameTable.{value_in}
use Rattle.raw_asm.proofs.label_table.label_lines.Given as goal

abbrev pub invariant-loop-line : goal.invariant-loop-line
invariant-loop-line l = (name : List ℕ) → value_in l.lines name ≡ position (has_label name) (take l.line (section_lines l.section))
