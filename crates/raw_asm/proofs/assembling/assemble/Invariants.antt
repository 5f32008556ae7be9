use Rattle.std.proofs.Common.{◌≡◌, ◌≤◌, length}
use Rattle.raw_asm.specs.Tokens.{section_lines}
use Rattle.raw_asm.specs.Section.{place_of, code_upto, AreFaultless}
use Rattle.raw_asm.proofs.assembling.assemble.Given as goal

abbrev pub invariant-loop-line : goal.invariant-loop-line
invariant-loop-line g l = record {
  code : l.program.items ≡ code_upto (g.S.Statements.language l.statements) (section_lines l.section) l.line;
  place : length l.program.items ≡ place_of (g.S.Statements.language l.statements) (section_lines l.section) l.line;
  short : length l.program.items ≤ l.most;
  faultless : AreFaultless (g.S.Statements.language l.statements) (section_lines l.section) l.line;
}
