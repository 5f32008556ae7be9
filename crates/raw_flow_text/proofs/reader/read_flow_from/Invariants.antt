use Rattle.raw_answer.specs.Places.{AreFaultless}
use Rattle.raw_asm.specs.Tokens.{section_lines}
use Rattle.raw_flow_text.specs.Meaning.{said_before, fault_at}
use Rattle.raw_flow_text.specs.Building.{BuilderStands}
use Rattle.raw_flow_text.proofs.reader.read_flow_from.Given as goal

abbrev pub invariant-loop-place : goal.invariant-loop-place
invariant-loop-place l = record {
  stands : BuilderStands l.builder (said_before (section_lines l.lines) l.place);
  faultless : AreFaultless (fault_at l.wanted (section_lines l.lines)) l.place;
}
