use Rattle.std.proofs.Common.{◌≡◌, ◌≤◌, ◌<◌, ℕ, [], length, slice_index_or}
use Rattle.raw_asm.specs.Tokens.{section_lines}
use Rattle.raw_set_text.proofs.reader.next_line.Given as goal

abbrev pub invariant-loop-place : goal.invariant-loop-place
invariant-loop-place l = (k : ℕ) → l.from ≤ k → k < l.place → length (slice_index_or (section_lines l.lines) k []) ≡ 0
