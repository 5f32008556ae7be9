use Rattle.std.proofs.Common.{◌≡◌, ℕ, ◌+◌, ◌-◌, ◌≤◌, List, ◌++◌, length}
use Rattle.std.specs.Io.KnownBytes.{Consumes}
use Rattle.raw_live_text.specs.Feeding.{IntakeStands}
use Rattle.raw_live_text.proofs.reader.read_lines.Given as goal

abbrev pub invariant-loop-so_far : goal.invariant-loop-so_far
invariant-loop-so_far g l = record {
  queue : l.to.queue ≡ l.fn.to.queue;
  words : l.so_far.words ≡ length l.to.items;
  room : l.so_far.words ≤ l.intake.room;
  number : l.so_far.number ≤ l.intake.line + length l.rest + l.count;
  short : length l.so_far.line.items ≤ length l.rest + l.count;
  within : l.count ≤ l.most;
  read : (bytes : List ℕ) × Consumes (g.S.Source.sight l.fn.source).left (g.S.Source.sight l.source).left bytes × (length bytes ≡ l.count) × IntakeStands l.intake (l.rest ++ bytes) l.so_far l.to.items;
  counted : (g.S.Source.sight l.source).given ≡ (g.S.Source.sight l.fn.source).given + l.count;
  later : (g.S.Source.sight l.fn.source).faults ≤ (g.S.Source.sight l.source).faults;
}

abbrev pub decreases-loop-so_far : goal.decreases-loop-so_far
decreases-loop-so_far g l = l.most + 1 - l.count
