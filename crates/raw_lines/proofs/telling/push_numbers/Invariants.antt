use Rattle.std.proofs.Common.{◌≡◌, ◌+◌, ◌++◌}
use Rattle.std.specs.List.{flat_map, range_with_len}
use Rattle.raw_lines.specs.Lines.{number_line}
use Rattle.raw_lines.proofs.telling.push_numbers.Given as goal

abbrev pub invariant-loop-j : goal.invariant-loop-j
invariant-loop-j l = l.bytes.items ≡ l.fn.bytes.items ++ flat_map (λ j. number_line l.processor l.section.from l.line (l.place + j)) (range_with_len 0 l.j)
