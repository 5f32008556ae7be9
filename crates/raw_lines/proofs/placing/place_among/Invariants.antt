use Rattle.std.proofs.Common.{◌≡◌, ℕ, ◌*◌, ◌<◌, ◌≤◌, false, [], get_or}
use Rattle.raw_asm.specs.Section.{has_label}
use Rattle.raw_asm.specs.Tokens.{section_lines}
use Rattle.raw_lines.specs.Places.{place_in}
use Rattle.raw_lines.proofs.placing.place_among.Given as goal

abbrev pub invariant-loop-at : goal.invariant-loop-at
invariant-loop-at l = record {
  place : l.place ≡ place_in l.kind (section_lines l.section) l.at;
  bound : l.place ≤ 2 * l.at;
  none : (k : ℕ) → k < l.at → has_label l.name (get_or (section_lines l.section) k []) ≡ false;
}
