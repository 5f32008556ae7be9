use Rattle.std.proofs.Common.{◌≡◌, ◌++◌, [], ◌∷◌, length, take, refl, sym, ap, subst, ◌∙◌, inl, inr, arith, append-nil, length-append}
use Rattle.std.specs.Io.KnownBytes.{Consumes}
use Rattle.std.proofs.KnownBytes.{Consumes-nil, Consumes-trans}
use Rattle.std.proofs.Math.Seq.{take-append_seam}
use Rattle.raw_lines.specs.LabelsOf.{places_in}
use Rattle.raw_text.specs.Lines.{lines_of}
use Rattle.raw_live_text.specs.Feeding.{whole_lines}
use Rattle.raw_debug_live.specs.Answering.{AllPut}
use Rattle.raw_debug_live.proofs.Answered.{begins, fails_in, goes_in}
use Rattle.raw_debug_live.proofs.Taken.{took, took_none}
use Rattle.raw_debug_live.proofs.answering.answer_lines.Goals as goal

pub bytes-init : goal.bytes-init
bytes-init g c = record {
  read = (
    [],
    Consumes-nil _,
    refl,
    begins (places_in c.args.labels.now) c.args.debugger.now.set (g.K.Sink.sight c.args.out.now) c.args.debugger.now c.new-line.result refl c.requires.start c.new-line.ensures,
  );
  within = omega arith;
  counted = omega arith;
  later = omega arith;
}

pub returns-then-count-most : goal.returns-then-count-most
returns-then-count-most g c =
    let inv = c.bytes.invariant in
    let next = c.in-Ok-Some.next in
    let before = inv.read.0 in
    let at = inv.read.3 in
    let takes = took (g.S.Source.sight c.bytes.source) (g.S.Source.sight c.take_byte.new.source) c.in-Ok-Some.field-0 next c.in-Ok-Some.field-0-is c.in-Ok-Some.ensures.takes in
    let parts = length-append before (next ∷ []) in
    let size : length before ≡ c.args.most = inv.read.2 ∙ c.if-count-most.true in
    let front : take c.args.most (before ++ next ∷ []) ≡ before = ap (λ n. take n (before ++ next ∷ [])) (sym size) ∙ take-append_seam before (next ∷ []) in
    record {
      bytes = before ++ next ∷ [];
      taken = Consumes-trans _ _ _ _ _ inv.read.1 takes.0;
      counted = omega (arith, inv.counted, takes.1, parts, inv.read.2);
      answered = (
        omega (arith, parts, size),
        subst (λ bytes. AllPut (places_in c.args.labels.now) c.args.debugger.now.set (whole_lines bytes) (g.K.Sink.sight c.args.out.now) (g.K.Sink.sight c.bytes.out)) (sym front)
            (record { put = at.put; later = at.later }),
      );
      later = omega (arith, inv.later, c.in-Ok-Some.ensures.count);
    }

pub returns-then-is_err : goal.returns-then-is_err
returns-then-is_err g c =
    let inv = c.bytes.invariant in
    let next = c.in-Ok-Some.next in
    let before = inv.read.0 in
    let takes = took (g.S.Source.sight c.bytes.source) (g.S.Source.sight c.take_byte.new.source) c.in-Ok-Some.field-0 next c.in-Ok-Some.field-0-is c.in-Ok-Some.ensures.takes in
    let parts = length-append before (next ∷ []) in
    let after = c.note_byte.ensures c.args.debugger.now.set before (g.K.Sink.sight c.args.out.now) inv.read.3 in
    record {
      bytes = before ++ next ∷ [];
      taken = Consumes-trans _ _ _ _ _ inv.read.1 takes.0;
      counted = omega (arith, inv.counted, takes.1, parts, inv.read.2);
      answered = (
        omega (arith, parts, inv.read.2, inv.within, c.if-count-most.false),
        (whole_lines (before ++ next ∷ []), inl refl, fails_in (places_in c.args.labels.now) _ _ _ _ _ _ c.note_byte.result (sym c.is_err.ensures.value ∙ c.if-is_err.true) after),
      );
      later = omega (arith, inv.later, c.in-Ok-Some.ensures.count);
    }

pub returns-in-Err-finish : goal.returns-in-Err-finish
returns-in-Err-finish g c =
    let inv = c.bytes.invariant in
    let before = inv.read.0 in
    let takes = took_none (g.S.Source.sight c.bytes.source) (g.S.Source.sight c.take_byte.new.source) c.in-Ok-None.field-0 c.in-Ok-None.field-0-is c.in-Ok-None.ensures.takes in
    record {
      bytes = before;
      taken = subst (Consumes (g.S.Source.sight c.args.source.now).left (g.S.Source.sight c.take_byte.new.source).left) (append-nil before) (Consumes-trans _ _ _ _ _ inv.read.1 takes.1);
      counted = omega (arith, inv.counted, takes.2, inv.read.2);
      answered = (
        omega (arith, inv.read.2, inv.within),
        (lines_of before, inr (takes.0, refl), c.in-Err-finish.ensures c.args.debugger.now.set before (g.K.Sink.sight c.args.out.now) inv.read.3),
      );
      later = omega (arith, inv.later, c.in-Ok-None.ensures.count);
    }

pub bytes-preserved : goal.bytes-preserved
bytes-preserved g c =
    let inv = c.bytes.invariant in
    let next = c.in-Ok-Some.next in
    let before = inv.read.0 in
    let takes = took (g.S.Source.sight c.bytes.source) (g.S.Source.sight c.take_byte.new.source) c.in-Ok-Some.field-0 next c.in-Ok-Some.field-0-is c.in-Ok-Some.ensures.takes in
    let parts = length-append before (next ∷ []) in
    let after = c.note_byte.ensures c.args.debugger.now.set before (g.K.Sink.sight c.args.out.now) inv.read.3 in
    record {
      read = (
        before ++ next ∷ [],
        Consumes-trans _ _ _ _ _ inv.read.1 takes.0,
        omega (arith, parts, inv.read.2),
        goes_in (places_in c.args.labels.now) _ _ _ _ _ _ c.note_byte.result (sym c.is_err.ensures.value ∙ c.if-is_err.false) after,
      );
      within = omega (arith, inv.within, c.if-count-most.false);
      counted = omega (arith, inv.counted, takes.1);
      later = omega (arith, inv.later, c.in-Ok-Some.ensures.count);
    }
