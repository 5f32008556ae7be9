use Rattle.std.proofs.Common.{◌≡◌, ◌*◌, ◌≤◌, ◌++◌}
use Rattle.std.specs.List.{flat_map, range_with_len}
use Rattle.raw_asm.specs.Tokens.{section_lines}
use Rattle.raw_lines.specs.Places.{place_in, label_at}
use Rattle.raw_lines.specs.Lines.{label_line}
use Rattle.raw_lines.proofs.telling.push_label_lines.Given as goal

abbrev pub invariant-loop-at : goal.invariant-loop-at
invariant-loop-at l = record {
  place : l.place ≡ place_in l.kind (section_lines l.section) l.at;
  bound : l.place ≤ 2 * l.at;
  text : l.bytes.items ≡ l.fn.bytes.items ++ flat_map (λ k. label_line l.processor (place_in l.kind (section_lines l.section) k) (label_at (section_lines l.section) k)) (range_with_len 0 l.at);
}
