use Rattle.std.proofs.Common.{◌≤◌, length, take}
use Rattle.raw_answer.specs.Places.{AreFaultless}
use Rattle.raw_asm.specs.Tokens.{section_lines}
use Rattle.raw_claim_text.specs.Lines.{fault_at}
use Rattle.raw_claim_text.specs.Building.{ClaimStands}
use Rattle.raw_claim_text.proofs.reader.read_lines.Given as goal

abbrev pub invariant-loop-place : goal.invariant-loop-place
invariant-loop-place l = record {
  stands : ClaimStands l.topo l.builder (take l.place (section_lines l.lines));
  faultless : AreFaultless (fault_at l.topo (section_lines l.lines)) l.place;
  room : length l.builder.places.items ≤ l.place;
}
