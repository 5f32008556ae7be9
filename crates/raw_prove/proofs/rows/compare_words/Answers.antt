use Rattle.std.proofs.Common.{◌≡◌, sym, ap, ◌∙◌, length}
use Rattle.raw_model.specs.Program.{ProgramSet}
use Rattle.raw_stream.specs.Streams.{Stream}
use Rattle.raw_term.specs.TermMachine.{TermState}
use Rattle.raw_row_terms.specs.RowClaims.{got_in, due_in, all_terms}
use Rattle.raw_row_terms.proofs.Meeting.{as_many, terms_counted}
use Rattle.raw_prove.specs.Units.{state_of}
use Rattle.raw_prove.proofs.rows.compare_words.Goals as goal

pub compare_terms-requires : goal.compare_terms-requires
compare_terms-requires c =
    let set : ProgramSet = c.args.set.now in
    let s : Stream = c.args.stream.now in
    let at : TermState = state_of c.args.machine.now in
    let got_is : c.deref.result.now ≡ got_in set c.args.order.now at.state = c.deref.ensures.value ∙ c.in_ok-got.ensures in
    let due_is : c.deref-in-Ok.result.now ≡ due_in s c.args.order.now (all_terms s at.nodes).values = c.deref-in-Ok.ensures.value ∙ c.in-Ok.ensures.due in
    ap length got_is ∙ as_many set s c.args.order.now c.requires.fits.claim.ports c.requires.fits.claim.sinks at.state c.requires.counts (all_terms s at.nodes).values (terms_counted s at.nodes) ∙ sym (ap length due_is)
