use Rattle.std.proofs.Common.{◌≡◌, length, take, ◌-◌}
use Rattle.raw_text.specs.Text.{text_lines}
use Rattle.raw_asm.specs.Tokens.{section_lines}
use Rattle.raw_set_text.specs.Reading.{StandsAt}
use Rattle.raw_set_text.proofs.reader.read_set.Given as goal

abbrev pub invariant-loop-place : goal.invariant-loop-place
invariant-loop-place l = record {
  same : section_lines l.lines ≡ take l.to (text_lines l.text);
  stands : StandsAt (section_lines l.lines) l.place l.builder;
}

abbrev pub decreases-loop-place : goal.decreases-loop-place
decreases-loop-place l = length (section_lines l.lines) - l.place
