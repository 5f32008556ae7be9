use Rattle.std.proofs.Common.{◌≡◌, sym, ap, ◌∙◌, length}
use Rattle.raw_model.specs.Program.{ProgramSet}
use Rattle.raw_model.specs.Start.{MachineState}
use Rattle.raw_stream.specs.Streams.{Stream}
use Rattle.raw_stream.specs.Unrolled.{all_rows}
use Rattle.raw_row_terms.specs.RowClaims.{got_in, due_in}
use Rattle.raw_row_terms.proofs.Meeting.{as_many}
use Rattle.raw_refute.proofs.RowRefuting.{rows_counted}
use Rattle.raw_refute.proofs.row_judging.done_fault.Goals as goal

pub first_other-requires : goal.first_other-requires
first_other-requires c =
    let set : ProgramSet = c.args.machine.now.set in
    let state : MachineState = c.args.machine.now.state in
    let s : Stream = c.args.stream.now in
    let order = c.args.order.now in
    let rows = all_rows s c.args.words.now in
    let got : c.deref.result.now ≡ got_in set order state = c.deref.ensures.value ∙ c.in_ok-got-in-None.ensures in
    let due : c.deref-in-None.result.now ≡ due_in s order rows = c.deref-in-None.ensures.value ∙ c.in_ok-due-in-None.ensures in
    ap length got ∙ as_many set s order c.requires.claim.ports c.requires.claim.sinks state (sym c.first_miscount.ensures ∙ c.in-None.is) rows (rows_counted s c.args.words.now) ∙ sym (ap length due)
