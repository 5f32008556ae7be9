use Rattle.std.proofs.Common.{sym, ◌∙◌, arith}
use Rattle.raw_live_text.proofs.HeadPlaces.{byte_inside, line_on, line_marks, line_faults}
use Rattle.raw_live_text.proofs.head.look_at.Goals as goal

pub returns-then-bytes-at-ne10 : goal.returns-then-bytes-at-ne10
returns-then-bytes-at-ne10 c = byte_inside c.args.word.now c.args.bytes.now c.args.at c.args.place c.requires.within c.requires.stands c.if-bytes-at-ne10.true

pub overflow_add-result-in-Open : goal.overflow_add-result-in-Open
overflow_add-result-in-Open c = omega (arith, c.requires.stands.few, c.requires.stands.within, c.requires.within, c.requires.short)

pub returns-in-Open : goal.returns-in-Open
returns-in-Open c = line_on c.args.word.now c.args.bytes.now c.args.at c.args.place c.requires.within c.requires.stands c.if-bytes-at-ne10.false (sym c.in_ok-line_end.ensures ∙ c.in-Open.is)

pub returns-in-Mark : goal.returns-in-Mark
returns-in-Mark c = line_marks c.args.word.now c.args.bytes.now c.args.at c.args.place c.requires.within c.requires.stands c.if-bytes-at-ne10.false _ (sym c.in_ok-line_end.ensures ∙ c.in-Mark.is)

pub returns-in-Fault : goal.returns-in-Fault
returns-in-Fault c = line_faults c.args.word.now c.args.bytes.now c.args.at c.args.place c.requires.within c.requires.stands c.if-bytes-at-ne10.false _ _ (sym c.in_ok-line_end.ensures ∙ c.in-Fault.is)
