use Rattle.std.proofs.Common.{◌≡◌, [], take, refl, sym, subst, arith, rules, append-nil, length-take}
use Rattle.std.specs.Io.KnownBytes.{Consumes}
use Rattle.std.proofs.KnownBytes.{Consumes-nil}
use Rattle.std.proofs.lemmas.Result.{err_from_is_err_and}
use Rattle.raw_live_text.specs.Feeding.{IntakeStands}
use Rattle.raw_live_text.proofs.Reading.{begins, stops_early, fails, stops, too_long, finishes}
use Rattle.raw_live_text.proofs.reader.read_lines.Goals as goal

pub returns-in_err-hand_on-clause-reads : goal.returns-in_err-hand_on-clause-reads
returns-in_err-hand_on-clause-reads g c =
    let p = err_from_is_err_and c.from_residual.result c.from_residual.ensures.1 in
    rw (p.1, p.2) (stops_early _ _ _ _ _ c.hand_on.new.so_far.number _ _ refl (c.in_err-hand_on.ensures.handled [] (begins _ _ _ c.requires.fresh refl c.new.ensures.items)))

pub loop-so_far-init : goal.loop-so_far-init
loop-so_far-init g c =
    let o = c.in_ok-hand_on.ensures in record {
      queue = o.queue;
      words = o.counted.words;
      room = o.counted.room;
      number = omega (arith, o.counted.number);
      short = omega (arith, o.short, c.new.ensures.len);
      within = omega arith;
      read = ([], Consumes-nil _, refl, subst (λ l. IntakeStands c.args.intake.now l c.hand_on.new.so_far c.hand_on.new.to.items) (sym (append-nil c.args.rest.now)) (o.handled [] (begins _ _ _ c.requires.fresh refl c.new.ensures.items)));
      counted = omega arith;
      later = omega arith;
    }

pub ask-requires-clause-put : goal.ask-requires-clause-put
ask-requires-clause-put g c =
    let inv = c.loop-so_far.invariant in record {
      first = g.S.Source.sight c.args.source.now;
      bytes = inv.read.0;
      taken = inv.read.1;
      counted = inv.counted;
      many = inv.read.2;
      stands = inv.read.3;
    }

pub returns-in-Err-clause-reads : goal.returns-in-Err-clause-reads
returns-in-Err-clause-reads g c =
    let inv = c.loop-so_far.invariant in
    fails _ _ _ _ _ (g.S.Source.sight c.loop-so_far.source).left inv.read.0 c.loop-so_far.so_far c.loop-so_far.to.items inv.read.1 c.in-Err.ensures.bytes (omega (arith, inv.counted, inv.read.2, c.in-Err.ensures.counted))
    (omega (arith, inv.later, c.in-Err.ensures.cause.failed)) (omega (arith, inv.read.2, inv.within)) inv.read.3

pub returns-in-Ok-eq0-clause-reads : goal.returns-in-Ok-eq0-clause-reads
returns-in-Ok-eq0-clause-reads g c =
    let inv = c.loop-so_far.invariant in
    let buf = length-take c.min-want.result c.loop-so_far.buf in
    let none : c.in-Ok-eq0.field-0 ≡ 0 = search rules in
    finishes _ _ _ _ _ (g.S.Source.sight c.loop-so_far.source).left inv.read.0 c.loop-so_far.so_far c.loop-so_far.to.items _ _ c.finish_line.result inv.read.1 (subst (λ n. Consumes (g.S.Source.sight c.loop-so_far.source).left (g.S.Source.sight c.ask.new.source).left (take n c.ask.new.part)) none c.in-Ok-eq0.ensures.bytes.0)
    (omega (arith, c.in-Ok-eq0.ensures.counted, none, inv.counted, inv.read.2)) (c.in-Ok-eq0.ensures.bytes.1 none (omega (arith, c.ask.auto.part, buf, c.min-want.ensures, inv.within))) (omega (arith, inv.read.2, inv.within)) inv.read.3 c.finish_line.ensures.handled

pub returns-in_err-hand_on-in-Ok-clause-reads : goal.returns-in_err-hand_on-in-Ok-clause-reads
returns-in_err-hand_on-in-Ok-clause-reads g c =
    let inv = c.loop-so_far.invariant in
    let buf = length-take c.min-want.result c.loop-so_far.buf in
    let p = err_from_is_err_and c.from_residual-in_err-hand_on-in-Ok.result c.from_residual-in_err-hand_on-in-Ok.ensures.1 in
    rw (p.1, p.2) (stops _ _ _ _ _ (g.S.Source.sight c.loop-so_far.source).left c.ask.new.part c.in-Ok.given c.min-within.result inv.read.0 inv.read.1 c.in-Ok.ensures.bytes.0
    (omega (arith, c.in-Ok.ensures.bound, c.ask.auto.part, buf)) (omega (arith, c.in-Ok.ensures.bound, c.ask.auto.part, buf, c.min-want.ensures)) (omega (arith, c.in-Ok.ensures.bound, c.ask.auto.part, buf, c.min-want.ensures, inv.read.2, inv.within))
    (omega (arith, c.in-Ok.ensures.counted, inv.counted, inv.read.2)) (omega (arith, c.min-within.ensures)) c.loop-so_far.so_far c.loop-so_far.to.items inv.read.3
    c.hand_on-in-Ok.new.so_far.number _ _ (c.in_err-hand_on-in-Ok.ensures.handled _ inv.read.3))

pub returns-then-within-given-clause-reads : goal.returns-then-within-given-clause-reads
returns-then-within-given-clause-reads g c =
    let inv = c.loop-so_far.invariant in
    let buf = length-take c.min-want.result c.loop-so_far.buf in
    too_long _ _ _ _ _ (g.S.Source.sight c.loop-so_far.source).left c.ask.new.part c.in-Ok.given c.min-within.result inv.read.0 inv.read.1 c.in-Ok.ensures.bytes.0
    (omega (arith, c.in-Ok.ensures.bound, c.ask.auto.part, buf)) (omega (arith, c.in-Ok.ensures.bound, c.ask.auto.part, buf, c.min-want.ensures)) (omega (arith, c.in-Ok.ensures.bound, c.ask.auto.part, buf, c.min-want.ensures, inv.read.2, inv.within))
    (omega (arith, c.in-Ok.ensures.counted, inv.counted, inv.read.2)) (omega (arith, c.min-within.ensures)) c.loop-so_far.so_far c.loop-so_far.to.items inv.read.3
    c.hand_on-in-Ok.new.so_far _ (omega (arith, inv.read.2, c.if-within-given.true, c.min-within.ensures)) (omega (arith, inv.read.2, c.in-Ok.ensures.bound, c.ask.auto.part, buf, c.if-within-given.true, c.min-within.ensures, c.min-want.ensures)) (c.in_ok-hand_on-in-Ok.ensures.handled _ inv.read.3)
