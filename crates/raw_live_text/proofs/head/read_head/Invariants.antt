use Rattle.std.proofs.Common.{◌≡◌, ◌+◌, ◌-◌, ◌≤◌, length}
use Rattle.std.specs.Io.KnownBytes.{Consumes}
use Rattle.raw_live_text.specs.Heads.{StandsAt}
use Rattle.raw_live_text.proofs.head.read_head.Given as goal

abbrev pub invariant-loop-bytes : goal.invariant-loop-bytes
invariant-loop-bytes g l = record {
  within : length l.bytes.items ≤ l.most;
  stands : StandsAt l.word l.bytes.items (length l.bytes.items) l.place;
  taken : Consumes (g.S.Source.sight l.fn.source).left (g.S.Source.sight l.source).left l.bytes.items;
  counted : (g.S.Source.sight l.source).given ≡ (g.S.Source.sight l.fn.source).given + length l.bytes.items;
  later : (g.S.Source.sight l.fn.source).faults ≤ (g.S.Source.sight l.source).faults;
}

abbrev pub decreases-loop-bytes : goal.decreases-loop-bytes
decreases-loop-bytes g l = l.most + 1 - length l.bytes.items
