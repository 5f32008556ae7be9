use Rattle.std.proofs.Common.{◌≡◌, ◌∙◌, Some, sym}
use Rattle.raw_refute.proofs.RowConcluding.{counts_differ}
use Rattle.raw_refute.proofs.row_answering.answer_rows.Goals as goal

pub returns-in-Some : goal.returns-in-Some
returns-in-Some c =
    counts_differ c.args.set.now c.args.stream.now c.args.order.now c.in-Some.port _ _ (sym c.misfed.ensures ∙ c.in-Some.is) c.taken_of.ensures.value c.words_at.ensures
