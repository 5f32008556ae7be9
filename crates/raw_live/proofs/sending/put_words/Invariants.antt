use Rattle.std.proofs.Common.{◌≡◌, ◌++◌, take}
use Rattle.raw_live.specs.Engine.{words_to}
use Rattle.raw_live.proofs.sending.put_words.Given as goal

abbrev pub invariant-loop-word : goal.invariant-loop-word
invariant-loop-word g l = record {
  queue : l.to.queue ≡ l.fn.to.queue;
  items : l.to.items ≡ l.fn.to.items ++ words_to l.port (take l.word-index l.words);
}
