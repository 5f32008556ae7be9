use Rattle.std.proofs.Common.{◌++◌, sym, ap, subst, ◌∙◌}
use Rattle.raw_live_text.specs.Feeding.{BeginsItems}
use Rattle.raw_live_text.proofs.Feeds.{begins_same}
use Rattle.raw_live.specs.Engine.{with_put}
use Rattle.raw_live.specs.Due.{new_words, live_items}
use Rattle.raw_live.proofs.Fronts.{word_more, end_more}
use Rattle.raw_live.proofs.AtRest.{word_fed, end_fed, live_more, live_end}
use Rattle.raw_live.proofs.engine.run_words.Goals as goal

pub take_due-requires : goal.take_due-requires
take_due-requires g c =
    let inv = c.loop.invariant in record { due = record { first = c.args.engine.now.set; fed = inv.set; put_all = inv.put } }

pub returns-in-None-take_due-clause-ran : goal.returns-in-None-take_due-clause-ran
returns-in-None-take_due-clause-ran g c =
    let inv = c.loop.invariant in
    let first = c.args.engine.now.set in
    subst (BeginsItems c.loop.words_out.items) (inv.put ∙ ap (live_items first) (sym c.in-None-take_due.ensures.taken)) (begins_same c.loop.words_out.items)

pub returns-in-Some-End-clause-ran : goal.returns-in-Some-End-clause-ran
returns-in-Some-End-clause-ran g c =
    let inv = c.loop.invariant in
    let first = c.args.engine.now.set in
    let e = end_more _ _ _ inv.open_in c.in-Some-End.ensures.taken c.in-Some-End.field-0-is in (
      e.ended,
      inv.set ∙ end_fed first c.loop.words_in.items c.take_due.new.self.items _ inv.open_in c.in-Some-End.ensures.taken c.in-Some-End.field-0-is,
      inv.rests.rest,
      inv.put ∙ live_end first c.loop.words_in.items c.take_due.new.self.items _ inv.open_in c.in-Some-End.ensures.taken c.in-Some-End.field-0-is,
    )

pub returns-in-Err-step-clause-ran : goal.returns-in-Err-step-clause-ran
returns-in-Err-step-clause-ran g c =
    let inv = c.loop.invariant in
    let first = c.args.engine.now.set in
    let is = live_more first c.loop.engine.set c.loop.words_in.items c.take_due.new.self.items _ c.in-Some-Word.port c.in-Some-Word.word inv.open_in inv.set c.in-Some-Word.ensures.taken c.in-Some-Word.field-0-is in
    subst (BeginsItems c.step.new.to.items) (ap (λ l. l ++ new_words c.loop.engine.set (with_put c.loop.engine.set c.in-Some-Word.port c.in-Some-Word.word)) inv.put ∙ is) c.in-Err-step.ensures.items

pub loop-preserved : goal.loop-preserved
loop-preserved g c =
    let inv = c.loop.invariant in
    let first = c.args.engine.now.set in
    let o = c.in_default-step.ensures in
    let e = word_more _ _ _ c.in-Some-Word.port c.in-Some-Word.word inv.open_in c.in-Some-Word.ensures.taken c.in-Some-Word.field-0-is in
    let is = word_fed first c.loop.engine.set c.loop.words_in.items c.take_due.new.self.items _ c.in-Some-Word.port c.in-Some-Word.word inv.open_in inv.set c.in-Some-Word.ensures.taken c.in-Some-Word.field-0-is in
    let put = live_more first c.loop.engine.set c.loop.words_in.items c.take_due.new.self.items _ c.in-Some-Word.port c.in-Some-Word.word inv.open_in inv.set c.in-Some-Word.ensures.taken c.in-Some-Word.field-0-is in record {
      queues = (c.in-Some-Word.ensures.queue ∙ inv.queues.0, o.queue ∙ inv.queues.1);
      open_in = e.endless;
      set = o.set ∙ is;
      rests = o.rests;
      put = o.items ∙ ap (λ l. l ++ new_words c.loop.engine.set (with_put c.loop.engine.set c.in-Some-Word.port c.in-Some-Word.word)) inv.put ∙ put;
    }
