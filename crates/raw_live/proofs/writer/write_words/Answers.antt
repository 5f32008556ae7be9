use Rattle.std.proofs.Common.{◌++◌, ◌∙◌, arith}
use Rattle.std.proofs.KnownBytes.{Appends-trans}
use Rattle.std.proofs.Math.Seq.{take-length}
use Rattle.raw_io.specs.Writing.{AppendsProperFront}
use Rattle.raw_io.proofs.Chains.{AppendsProperFront-after}
use Rattle.raw_live.specs.Items.{got_line, got_text}
use Rattle.raw_live.proofs.Fronts.{word_more, end_more}
use Rattle.raw_live.proofs.writer.write_words.Goals as goal

pub returns-in-Some-End-clause-wrote : goal.returns-in-Some-End-clause-wrote
returns-in-Some-End-clause-wrote g c =
    let e = end_more _ _ _ c.loop.invariant.endless c.in-Some-End.ensures.taken c.in-Some-End.field-0-is in record {
      wrote = (e.ended, rw e.text c.loop.invariant.lines);
      count = c.loop.invariant.count;
    }

pub returns-in-Err-clause-wrote : goal.returns-in-Err-clause-wrote
returns-in-Err-clause-wrote g c =
    let e = word_more _ _ _ c.in-Some-Word.port c.in-Some-Word.word c.loop.invariant.endless c.in-Some-Word.ensures.taken c.in-Some-Word.field-0-is in
    let line = got_line c.in-Some-Word.port c.in-Some-Word.word in
    let before = got_text c.loop.from.items in
    let front : AppendsProperFront (g.K.Sink.sight c.loop.out).bytes (g.K.Sink.sight c.put_line.new.out).bytes line = rw (← c.got_line.ensures) c.in-Err.ensures.front in
    let fault = c.in-Err.ensures.fault in record {
      wrote = (
        record {
          before = c.loop.from.items;
          port = c.in-Some-Word.port;
          word = c.in-Some-Word.word;
          items = e.items;
          endless = c.loop.invariant.endless;
          between = (g.K.Sink.sight c.loop.out).bytes;
          lines = c.loop.invariant.lines;
          front = front;
          fault = omega (arith, c.loop.invariant.count, fault);
        },
        AppendsProperFront-after _ _ _ before line (got_text c.take_wait.new.self.items) c.loop.invariant.lines front (rw e.text (take-length (before ++ line))),
      );
      count = omega (arith, c.loop.invariant.count, c.in-Err.ensures.count);
    }

pub loop-preserved : goal.loop-preserved
loop-preserved g c =
    let e = word_more _ _ _ c.in-Some-Word.port c.in-Some-Word.word c.loop.invariant.endless c.in-Some-Word.ensures.taken c.in-Some-Word.field-0-is in
    let o = c.in_default.ensures in record {
      queue = c.in-Some-Word.ensures.queue ∙ c.loop.invariant.queue;
      endless = e.endless;
      lines = rw (e.text, ← c.got_line.ensures) (Appends-trans _ _ _ _ _ c.loop.invariant.lines o.ok);
      count = omega (arith, c.loop.invariant.count, o.count);
    }
