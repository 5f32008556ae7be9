use Rattle.raw_lines.specs.LabelsOf.{places_in}
use Rattle.raw_debug_live.proofs.Answered.{goes_on, ended}
use Rattle.raw_debug_live.proofs.answering.note_byte.Goals as goal

pub returns-then-next-ne10 : goal.returns-then-next-ne10
returns-then-next-ne10 g c = λ set bytes before at.
    goes_on (places_in c.args.labels.now) set bytes before (g.K.Sink.sight c.args.out.now) c.args.debugger.now c.args.line.now at c.args.next c.if-next-ne10.true c.push.new.self c.push.ensures

pub returns : goal.returns
returns g c = λ set bytes before at.
    ended (places_in c.args.labels.now) set bytes before (g.K.Sink.sight c.args.out.now) c.args.debugger.now c.args.line.now at c.args.next c.if-next-ne10.false
    (g.K.Sink.sight c.obey-told.new.out) c.obey-told.new.self c.clear.new.self c.obey-told.result c.as_slice.result.now c.as_slice.ensures.value
    c.obey-told.ensures.answer c.obey-told.ensures.set c.obey-told.ensures.spot c.clear.ensures
