use Rattle.std.proofs.Common.{◌≡◌, ◌<◌, ◌≤◌, ◌++◌, ℕ, length, map, slice_index}
use Rattle.raw_processor.specs.Processor.{local_of}
use Rattle.raw_live.specs.Engine.{got_from}
use Rattle.raw_live.specs.Due.{words_behind}
use Rattle.raw_live.proofs.sending.put_all_new.Given as goal

abbrev pub invariant-loop-p : goal.invariant-loop-p
invariant-loop-p g l = record {
  queue : l.to.queue ≡ l.fn.to.queue;
  each : length l.sent.items ≡ length l.processors;
  within : l.p ≤ l.procs;
  items : l.to.items ≡ l.fn.to.items ++ words_behind l.p (λ q. slice_index l.fn.sent.items q) (got_from (map local_of l.processors));
  done : (q : ℕ) → q < l.p → slice_index l.sent.items q ≡ length (got_from (map local_of l.processors) q);
  later : (q : ℕ) → l.p ≤ q → slice_index l.sent.items q ≡ slice_index l.fn.sent.items q;
}
