use Rattle.std.proofs.Common.{◌≡◌, ◌≤◌, ◌<◌, ℕ, [], slice_index_or, false}
use Rattle.raw_asm.specs.Tokens.{section_lines}
use Rattle.raw_set_text.specs.Sections.{is_end}
use Rattle.raw_set_text.proofs.reader.end_of.Given as goal

abbrev pub invariant-loop-place : goal.invariant-loop-place
invariant-loop-place l = (k : ℕ) → l.from ≤ k → k < l.place → is_end (slice_index_or (section_lines l.lines) k []) ≡ false
