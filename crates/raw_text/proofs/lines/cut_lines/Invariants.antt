use Rattle.std.proofs.Common.{◌≡◌, ◌+◌, ◌-◌, ◌≤◌, length, map, take, drop}
use Rattle.raw_text.specs.Lines.{lines_of, tokens_of, first_fault}
use Rattle.raw_text.specs.Tokens.{line_tokens}
use Rattle.raw_text.specs.Cutting.{AreCut}
use Rattle.raw_text.proofs.lines.cut_lines.Given as goal
use Rattle.raw_text.proofs.Orders.{AreLinesCut}

abbrev pub invariant-loop-at : goal.invariant-loop-at
invariant-loop-at l = record {
  number : l.number ≡ length l.lines.items + 1;
  few : length l.lines.items ≤ l.at;
  bounded : length l.lines.items ≤ length l.bytes;
  rest : drop (length l.lines.items) (lines_of l.bytes) ≡ lines_of (drop l.at l.bytes);
  tokens : map (line_tokens l.bytes l.starts.items) l.lines.items ≡ map tokens_of (take (length l.lines.items) (lines_of l.bytes));
  faultless : first_fault (length l.lines.items + 1) (drop (length l.lines.items) (lines_of l.bytes)) ≡ first_fault 1 (lines_of l.bytes);
  cut : AreCut l.bytes l.at l.starts.items;
  lines_cut : AreLinesCut (length l.starts.items) l.lines.items;
}

abbrev pub decreases-loop-at : goal.decreases-loop-at
decreases-loop-at l = length l.bytes - l.at
