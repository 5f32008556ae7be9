use Rattle.std.proofs.Common.{◌≡◌, ◌≤◌, false}
use Rattle.std.specs.Io.KnownBytes.{Appends}
use Rattle.raw_live.specs.Items.{has_end, got_text}
use Rattle.raw_live.proofs.writer.write_words.Given as goal

abbrev pub invariant-loop : goal.invariant-loop
invariant-loop g l = record {
  queue : l.from.queue ≡ l.fn.from.queue;
  endless : has_end l.from.items ≡ false;
  lines : Appends (g.K.Sink.sight l.fn.out).bytes (g.K.Sink.sight l.out).bytes (got_text l.from.items);
  count : (g.K.Sink.sight l.fn.out).faults ≤ (g.K.Sink.sight l.out).faults;
}
