use Rattle.std.proofs.Common.{◌≡◌, ◌<◌, ◌++◌, map, length, refl, sym, ap, ◌∙◌, append-nil, arith, length-set}
use Rattle.std.specs.Prelude.{slice_index}
use Rattle.std.proofs.lemmas.List.{length-map}
use Rattle.raw_processor.specs.Processor.{local_of}
use Rattle.raw_live.specs.Engine.{got_from}
use Rattle.raw_live.specs.Due.{words_behind}
use Rattle.raw_live.proofs.HandedOn.{put_more, put_part, no_more, one_done, others_stay, local_at, all_sent}
use Rattle.raw_live.proofs.sending.put_all_new.Goals as goal

pub loop-p-init : goal.loop-p-init
loop-p-init g c = record {
  queue = refl;
  each = c.requires.each.1;
  within = omega arith;
  items = sym (append-nil c.args.to.now.items);
  done = λ q past. absurd (omega (arith, past));
  later = λ q past. refl;
}

pub put_new-requires : goal.put_new-requires
put_new-requires g c =
    let inv = c.loop-p.invariant in
    let x = c.index-processors-i.result in
    let within : c.loop-p.p < length c.loop-p.sent.items = omega (arith, c.loop-p-test.true, c.requires.each.0, inv.each) in record {
      sent = no_more (map local_of c.args.processors.now) c.args.sent.now.items c.loop-p.sent.items c.loop-p.p c.index.result.now (local_of x) within
          (local_at c.args.processors.now c.args.procs c.loop-p.p x c.requires.each.0 c.loop-p-test.true c.index-processors-i.is) c.index.ensures (inv.later c.loop-p.p (omega arith)) c.requires.sent;
    }

pub returns-in-Err-clause-items : goal.returns-in-Err-clause-items
returns-in-Err-clause-items g c =
    let inv = c.loop-p.invariant in
    let x = c.index-processors-i.result in
    let within : c.loop-p.p < length c.loop-p.sent.items = omega (arith, c.loop-p-test.true, c.requires.each.0, inv.each) in
    put_part (map local_of c.args.processors.now) c.args.to.now.items c.loop-p.to.items c.args.sent.now.items c.loop-p.sent.items c.loop-p.p (local_of x) c.index.result.now within
    (local_at c.args.processors.now c.args.procs c.loop-p.p x c.requires.each.0 c.loop-p-test.true c.index-processors-i.is) c.index.ensures (inv.later c.loop-p.p (omega arith)) inv.items
    _ c.in-Err.ensures.items.0 c.args.procs c.loop-p-test.true c.in-Err.ensures.items.1

pub loop-p-preserved : goal.loop-p-preserved
loop-p-preserved g c =
    let inv = c.loop-p.invariant in
    let o = c.in-Ok.ensures in
    let x = c.index-processors-i.result in
    let within : c.loop-p.p < length c.loop-p.sent.items = omega (arith, c.loop-p-test.true, c.requires.each.0, inv.each) in
    let at = local_at c.args.processors.now c.args.procs c.loop-p.p x c.requires.each.0 c.loop-p-test.true c.index-processors-i.is in record {
      queue = o.queue ∙ inv.queue;
      each = length-set c.loop-p.sent.items c.loop-p.p c.in-Ok.count ∙ inv.each;
      within = omega (arith, c.loop-p-test.true);
      items = put_more (map local_of c.args.processors.now) c.args.to.now.items c.loop-p.to.items c.args.sent.now.items c.loop-p.sent.items c.loop-p.p (local_of x) c.index.result.now within at c.index.ensures
          (inv.later c.loop-p.p (omega arith)) inv.items _ o.items;
      done = one_done (map local_of c.args.processors.now) c.loop-p.sent.items c.loop-p.p c.in-Ok.count (local_of x) within at o.count inv.done;
      later = others_stay c.loop-p.sent.items c.args.sent.now.items c.loop-p.p c.in-Ok.count inv.later;
    }

pub returns-clause-items : goal.returns-clause-items
returns-clause-items g c =
    let inv = c.loop-p.invariant in
    let all : c.loop-p.p ≡ c.args.procs = omega (arith, inv.within, c.loop-p-test.false) in
    inv.items ∙ ap (λ n. c.args.to.now.items ++ words_behind n (λ q. slice_index c.args.sent.now.items q) (got_from (map local_of c.args.processors.now))) all

pub returns-clause-sent : goal.returns-clause-sent
returns-clause-sent g c =
    let inv = c.loop-p.invariant in
    let long = length-map c.args.processors.now local_of in
    all_sent (map local_of c.args.processors.now) c.loop-p.sent.items (inv.each ∙ sym long)
    (λ q within. inv.done q (omega (arith, within, long, c.requires.each.0, c.loop-p-test.false)))
