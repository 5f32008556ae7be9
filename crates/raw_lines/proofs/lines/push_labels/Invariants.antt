use Rattle.std.proofs.Common.{◌≡◌, ◌++◌}
use Rattle.raw_asm.specs.Tokens.{section_lines}
use Rattle.raw_lines.specs.Reading.{labels_between}
use Rattle.raw_lines.proofs.lines.push_labels.Given as goal

abbrev pub invariant-loop-line : goal.invariant-loop-line
invariant-loop-line l = l.bytes.items ≡ l.fn.bytes.items ++ labels_between (section_lines l.section) l.from l.line
