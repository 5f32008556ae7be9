use Rattle.std.proofs.Common.{◌≡◌, ◌+◌, ◌-◌, ◌≤◌, ◌++◌, length, drop, map}
use Rattle.std.specs.Prelude.{slice_range}
use Rattle.raw_text.specs.Lines.{runs_of}
use Rattle.raw_text.specs.Tokens.{token_at}
use Rattle.raw_text.specs.Cutting.{AreCut}
use Rattle.raw_text.proofs.lines.cut_tokens.Given as goal

abbrev pub invariant-loop-at : goal.invariant-loop-at
invariant-loop-at l = record {
  from : l.start ≤ l.at;
  stop : l.at ≤ l.end + 1;
  kept : l.starts.items ≡ l.fn.starts.items ++ drop (length l.fn.starts.items) l.starts.items;
  runs : map (token_at l.bytes) (drop (length l.fn.starts.items) l.starts.items) ++ runs_of (slice_range l.bytes l.at l.end) ≡ runs_of (slice_range l.bytes l.start l.end);
  cut : AreCut l.bytes l.at l.starts.items;
}

abbrev pub decreases-loop-at : goal.decreases-loop-at
decreases-loop-at l = l.end - l.at
