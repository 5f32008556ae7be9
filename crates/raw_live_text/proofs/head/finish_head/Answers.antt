use Rattle.std.proofs.Common.{sym, ◌∙◌, rules}
use Rattle.raw_live_text.proofs.HeadPlaces.{tail_end, end_faults_at, end_open_at}
use Rattle.raw_live_text.proofs.HeadReading.{cuts_last}
use Rattle.raw_live_text.proofs.head.finish_head.Goals as goal

pub returns-in-Ok-Open : goal.returns-in-Ok-Open
returns-in-Ok-Open c =
    (search rules, λ left end. end_open_at c.args.word.now c.args.bytes.items c.args.place c.requires.stands left end (tail_end c.args.word.now _ _ c.args.place _ c.deref.ensures.value (sym c.in-Ok-Open.ensures ∙ c.in-Ok-Open.field-0-is)), tt)

pub returns-in-Ok-Mark : goal.returns-in-Ok-Mark
returns-in-Ok-Mark c =
    cuts_last c.args.word.now c.args.bytes.items c.args.place c.requires.stands _ c.len-behind.result c.cut.result (search rules) (tail_end c.args.word.now _ _ c.args.place _ c.deref.ensures.value (sym c.in-Ok-Mark.ensures ∙ c.in-Ok-Mark.field-0-is)) c.cut.ensures

pub returns-in-Ok-Fault : goal.returns-in-Ok-Fault
returns-in-Ok-Fault c =
    end_faults_at c.args.word.now c.args.bytes.items c.args.place c.requires.stands _ _ (tail_end c.args.word.now _ _ c.args.place _ c.deref.ensures.value (sym c.in-Ok-Fault.ensures ∙ c.in-Ok-Fault.field-0-is))
