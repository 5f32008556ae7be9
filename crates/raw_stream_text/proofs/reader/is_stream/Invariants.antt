use Rattle.std.proofs.Common.{◌≡◌, cond, length, take}
use Rattle.std.specs.List.{filter}
use Rattle.raw_asm.specs.Tokens.{section_lines}
use Rattle.raw_stream_text.specs.Meaning.{has_tokens}
use Rattle.raw_stream_text.proofs.reader.is_stream.Given as goal

abbrev pub invariant-loop-place : goal.invariant-loop-place
invariant-loop-place l = length (filter has_tokens (take l.place (section_lines l.lines))) ≡ cond l.first 0 1
