use Rattle.std.proofs.Common.{◌∙◌, arith}
use Rattle.std.proofs.lemmas.Result.{err_from_is_err_and}
use Rattle.raw_live_text.proofs.Feeds.{goes_on, stops_at}
use Rattle.raw_live_text.proofs.handing.hand_on.Goals as goal

pub returns-in_err-hand_on_byte-clause-handled : goal.returns-in_err-hand_on_byte-clause-handled
returns-in_err-hand_on_byte-clause-handled g c =
    let p = err_from_is_err_and c.from_residual.result c.from_residual.ensures.1 in
    λ bytes s. rw (p.1, p.2) (stops_at c.args.intake.now bytes c.args.piece.now c.loop-next.next-index c.hand_on_byte.new.so_far.number _ _ c.loop-next-test.true (c.in_err-hand_on_byte.ensures.handled _ (c.loop-next.invariant.stands bytes s)))

pub loop-next-preserved : goal.loop-next-preserved
loop-next-preserved g c =
    let inv = c.loop-next.invariant in
    let o = c.in_ok-hand_on_byte.ensures in record {
      queue = o.queue ∙ inv.queue;
      counted = record { words = o.counted.words; room = o.counted.room; number = omega (arith, o.counted.number, inv.counted.number) };
      short = omega (arith, o.short, inv.short);
      stands = λ bytes s. goes_on c.args.intake.now bytes c.args.piece.now c.loop-next.next-index c.hand_on_byte.new.so_far c.hand_on_byte.new.to.items c.loop-next-test.true (o.handled _ (inv.stands bytes s));
    }
