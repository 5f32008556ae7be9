use Rattle.std.proofs.Common.{◌∙◌}
use Rattle.raw_live.proofs.HandedOn.{to_more}
use Rattle.raw_live.proofs.sending.put_words.Goals as goal

pub loop-word-preserved : goal.loop-word-preserved
loop-word-preserved g c =
    let inv = c.loop-word.invariant in record {
      queue = c.in_default.ensures.queue ∙ inv.queue;
      items = to_more c.args.port c.args.words.now c.loop-word.word-index c.loop-word.to.items _ c.args.to.now.items c.loop-word-test.true inv.items c.in_default.ensures.ok;
    }
