use Rattle.std.proofs.Common.{◌≡◌, ◌++◌, length, take, subst, ◌∙◌, arith, rules, length-take}
use Rattle.std.specs.Io.KnownBytes.{Consumes}
use Rattle.raw_live_text.specs.Heads.{MarkAt}
use Rattle.raw_live_text.proofs.HeadReading.{stands_none, fails, ends_head, too_long, no_memory, stops, cuts}
use Rattle.raw_live_text.proofs.head.read_head.Goals as goal

pub loop-bytes-init : goal.loop-bytes-init
loop-bytes-init g c = record {
  within = omega (arith, c.new-bytes.ensures.len);
  stands = stands_none c.args.word.now c.new-bytes.result.items c.new-bytes.ensures.items;
  taken = search rules;
  counted = omega (arith, c.new-bytes.ensures.len);
  later = omega arith;
}

pub returns-in-Err-clause-reads : goal.returns-in-Err-clause-reads
returns-in-Err-clause-reads g c =
    let inv = c.loop-bytes.invariant in
    fails _ _ _ c.requires.some _ _ (g.S.Source.sight c.loop-bytes.source).left c.loop-bytes.bytes.items c.loop-bytes.place inv.within inv.taken c.in-Err.ensures.bytes (omega (arith, inv.counted, c.in-Err.ensures.counted)) (omega (arith, inv.later, c.in-Err.ensures.cause.failed)) inv.stands

pub returns-then-seen-most-clause-reads : goal.returns-then-seen-most-clause-reads
returns-then-seen-most-clause-reads g c =
    let inv = c.loop-bytes.invariant in
    let buf = length-take c.max-want.result c.loop-bytes.buf in
    let full : length c.loop-bytes.bytes.items ≡ c.args.most = search rules in
    too_long _ _ _ c.requires.some _ _ (g.S.Source.sight c.loop-bytes.source).left c.loop-bytes.bytes.items c.take.new.buf c.in-Ok.given inv.taken c.in-Ok.ensures.bytes.0 (omega (arith, c.in-Ok.ensures.bound))
    (omega (arith, c.in-Ok.ensures.bound, c.take.auto.buf, buf, c.max-want.array_long, c.max-want.ensures, c.min.ensures, c.requires.some)) (omega (arith, c.in-Ok.ensures.bound, c.take.auto.buf, buf, c.max-want.ensures, c.min.ensures, inv.within)) (omega (arith, c.in-Ok.ensures.counted, inv.counted)) c.loop-bytes.place inv.stands full
    (omega (arith, c.in-Ok.given-test.1, c.in-Ok.ensures.bound, c.take.auto.buf, buf, c.max-want.ensures, c.min.ensures, c.if-seen-most.true))

pub returns-then-is_err-clause-reads : goal.returns-then-is_err-clause-reads
returns-then-is_err-clause-reads g c =
    let inv = c.loop-bytes.invariant in
    let buf = length-take c.max-want.result c.loop-bytes.buf in
    no_memory _ _ _ c.requires.some _ _ (g.S.Source.sight c.loop-bytes.source).left c.loop-bytes.bytes.items c.take.new.buf c.in-Ok.given inv.taken c.in-Ok.ensures.bytes.0 (omega (arith, c.in-Ok.ensures.bound))
    (omega (arith, c.in-Ok.ensures.bound, c.take.auto.buf, buf, c.max-want.array_long, c.max-want.ensures, c.min.ensures, c.requires.some)) (omega (arith, c.in-Ok.ensures.bound, c.take.auto.buf, buf, c.max-want.ensures, c.min.ensures, inv.within)) (omega (arith, c.in-Ok.ensures.counted, inv.counted)) c.loop-bytes.place inv.stands

pub returns-in-Ok-eq0-clause-reads : goal.returns-in-Ok-eq0-clause-reads
returns-in-Ok-eq0-clause-reads g c =
    let inv = c.loop-bytes.invariant in
    let buf = length-take c.max-want.result c.loop-bytes.buf in
    let none : c.in-Ok-eq0.field-0 ≡ 0 = search rules in
    ends_head _ _ _ c.requires.some _ _ (g.S.Source.sight c.loop-bytes.source).left c.loop-bytes.bytes.items c.loop-bytes.place c.finish_head.result inv.taken
    (subst (λ n. Consumes (g.S.Source.sight c.loop-bytes.source).left (g.S.Source.sight c.take.new.self).left (take n c.take.new.buf)) none c.in-Ok-eq0.ensures.bytes.0)
    (omega (arith, c.in-Ok-eq0.ensures.counted, none, inv.counted)) (c.in-Ok-eq0.ensures.bytes.1 none (omega (arith, c.take.auto.buf, buf, c.max-want.ensures, c.max-want.array_long))) inv.within inv.stands c.finish_head.ensures

pub returns-in-Ok-Mark-clause-reads : goal.returns-in-Ok-Mark-clause-reads
returns-in-Ok-Mark-clause-reads g c =
    let inv = c.loop-bytes.invariant in
    let buf = length-take c.max-want.result c.loop-bytes.buf in
    let grown : c.extend_from_slice.new.self.items ≡ c.loop-bytes.bytes.items ++ take c.in-Ok.given c.take.new.buf = search rules in
    let there = rw c.in-Ok-Mark.field-0-is at c.in-Ok-Mark.ensures in
    cuts _ _ _ c.requires.some _ _ (g.S.Source.sight c.loop-bytes.source).left c.loop-bytes.bytes.items c.take.new.buf c.in-Ok.given inv.taken c.in-Ok.ensures.bytes.0 (omega (arith, c.in-Ok.ensures.bound))
    (omega (arith, c.in-Ok.ensures.bound, c.take.auto.buf, buf, c.max-want.array_long, c.max-want.ensures, c.min.ensures, c.requires.some)) (omega (arith, c.in-Ok.ensures.bound, c.take.auto.buf, buf, c.max-want.ensures, c.min.ensures, inv.within)) (omega (arith, c.in-Ok.ensures.counted, inv.counted)) c.loop-bytes.place inv.stands
    _ _ _ _ c.cut.result grown (search rules)
    (omega (arith, c.in-Ok.ensures.bound, c.take.auto.buf, buf, c.max-want.ensures, c.min.ensures, c.if-seen-most.false, inv.within)) (subst (λ l. MarkAt c.args.word.now l c.len-seen.result c.in-Ok-Mark.start c.in-Ok-Mark.behind) c.deref.ensures.value there) c.cut.ensures

pub returns-in-Ok-Fault-clause-reads : goal.returns-in-Ok-Fault-clause-reads
returns-in-Ok-Fault-clause-reads g c =
    let inv = c.loop-bytes.invariant in
    let buf = length-take c.max-want.result c.loop-bytes.buf in
    let grown : c.extend_from_slice.new.self.items ≡ c.loop-bytes.bytes.items ++ take c.in-Ok.given c.take.new.buf = search rules in
    let there = rw c.in-Ok-Fault.field-0-is at c.in-Ok-Fault.ensures in
    stops _ _ _ c.requires.some _ _ (g.S.Source.sight c.loop-bytes.source).left c.loop-bytes.bytes.items c.take.new.buf c.in-Ok.given inv.taken c.in-Ok.ensures.bytes.0 (omega (arith, c.in-Ok.ensures.bound))
    (omega (arith, c.in-Ok.ensures.bound, c.take.auto.buf, buf, c.max-want.array_long, c.max-want.ensures, c.min.ensures, c.requires.some)) (omega (arith, c.in-Ok.ensures.bound, c.take.auto.buf, buf, c.max-want.ensures, c.min.ensures, inv.within)) (omega (arith, c.in-Ok.ensures.counted, inv.counted)) c.loop-bytes.place inv.stands
    _ _ _ (c.deref.ensures.value ∙ grown) there

pub returns-in-Err-look_on-clause-reads : goal.returns-in-Err-look_on-clause-reads
returns-in-Err-look_on-clause-reads g c =
    let inv = c.loop-bytes.invariant in
    let buf = length-take c.max-want.result c.loop-bytes.buf in
    no_memory _ _ _ c.requires.some _ _ (g.S.Source.sight c.loop-bytes.source).left c.loop-bytes.bytes.items c.take.new.buf c.in-Ok.given inv.taken c.in-Ok.ensures.bytes.0 (omega (arith, c.in-Ok.ensures.bound))
    (omega (arith, c.in-Ok.ensures.bound, c.take.auto.buf, buf, c.max-want.array_long, c.max-want.ensures, c.min.ensures, c.requires.some)) (omega (arith, c.in-Ok.ensures.bound, c.take.auto.buf, buf, c.max-want.ensures, c.min.ensures, inv.within)) (omega (arith, c.in-Ok.ensures.counted, inv.counted)) c.loop-bytes.place inv.stands
