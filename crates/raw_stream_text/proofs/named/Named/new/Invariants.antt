use Rattle.raw_asm.specs.Tokens.{section_lines}
use Rattle.raw_stream_text.specs.Meaning.{said_before}
use Rattle.raw_stream_text.specs.Building.{IsNamed}
use Rattle.raw_stream_text.proofs.named.Named.new.Given as goal

abbrev pub invariant-loop-place : goal.invariant-loop-place
invariant-loop-place l = IsNamed l.named (said_before (section_lines l.lines) l.place)
