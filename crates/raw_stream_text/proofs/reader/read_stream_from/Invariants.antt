use Rattle.std.specs.Option.{option_map}
use Rattle.raw_asm.specs.Tokens.{section_lines}
use Rattle.raw_answer.specs.Places.{AreFaultless}
use Rattle.raw_stream_text.specs.Meaning.{said_before, said_in, fault_at}
use Rattle.raw_stream_text.specs.Building.{BuilderStands}
use Rattle.raw_stream_text.proofs.reader.read_stream_from.Given as goal

abbrev pub invariant-loop-place : goal.invariant-loop-place
invariant-loop-place l = record {
  stands : BuilderStands l.builder (said_in (section_lines l.lines)) (said_before (section_lines l.lines) l.place);
  faultless : AreFaultless (fault_at (option_map (λ topo. topo.now) l.claimed) (section_lines l.lines)) l.place;
}
