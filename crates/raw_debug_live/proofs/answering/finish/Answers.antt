use Rattle.std.proofs.Common.{length, ap, arith}
use Rattle.raw_lines.specs.LabelsOf.{places_in}
use Rattle.raw_debug_live.proofs.Answered.{ends_without, ends_with}
use Rattle.raw_debug_live.proofs.answering.finish.Goals as goal

pub returns-then-as_slice-eq0 : goal.returns-then-as_slice-eq0
returns-then-as_slice-eq0 g c = λ set bytes before at.
    let size = ap length c.as_slice.ensures.value in
    ends_without (places_in c.args.labels.now) set bytes before (g.K.Sink.sight c.args.out.now) c.args.debugger.now c.args.line.now at (omega (arith, c.if-as_slice-eq0.true, size))

pub returns : goal.returns
returns g c = λ set bytes before at.
    let size = ap length c.as_slice.ensures.value in
    ends_with (places_in c.args.labels.now) set bytes before (g.K.Sink.sight c.args.out.now) c.args.debugger.now c.args.line.now at (omega (arith, c.if-as_slice-eq0.false, size))
    (g.K.Sink.sight c.obey.new.out) c.obey.result c.as_slice-2.result.now c.as_slice-2.ensures.value c.obey.ensures.answer
