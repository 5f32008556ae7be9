use Rattle.std.proofs.Common.{◌≡◌, ℕ, ◌<◌, ◌≤◌, ◌*◌, length, get_or}
use Rattle.raw_asm.specs.Tokens.{section_lines}
use Rattle.raw_asm.specs.Section.{place_of}
use Rattle.raw_asm.proofs.label_table.line_starts.Given as goal

abbrev pub invariant-loop-line : goal.invariant-loop-line
invariant-loop-line g l = record {
  place : l.place ≡ place_of (g.S.Statements.language l.statements) (section_lines l.section) l.line;
  bound : l.place ≤ 2 * l.line;
  count : length l.starts.items ≡ l.line;
  starts : (k : ℕ) → k < l.line → get_or l.starts.items k 0 ≡ place_of (g.S.Statements.language l.statements) (section_lines l.section) k;
}
