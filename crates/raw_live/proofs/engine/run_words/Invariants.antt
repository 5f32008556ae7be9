use Rattle.std.proofs.Common.{◌≡◌, false}
use Rattle.raw_live.specs.Items.{has_end}
use Rattle.raw_live.specs.Engine.{with_items}
use Rattle.raw_live.specs.Due.{live_items}
use Rattle.raw_live.specs.Running.{Rests}
use Rattle.raw_live.proofs.engine.run_words.Given as goal

abbrev pub invariant-loop : goal.invariant-loop
invariant-loop g l = record {
  queues : (l.words_in.queue ≡ l.fn.words_in.queue) × (l.words_out.queue ≡ l.fn.words_out.queue);
  open_in : has_end l.words_in.items ≡ false;
  set : l.engine.set ≡ with_items l.fn.engine.set l.words_in.items;
  rests : Rests l.engine;
  put : l.words_out.items ≡ live_items l.fn.engine.set l.words_in.items;
}
