use Rattle.raw_row_terms.proofs.Meeting.{rows_are_met}
use Rattle.raw_row_terms.proofs.laws.law_rows_proved.Goals as goal

pub returns : goal.returns
returns c =
    rows_are_met (record { words = c.law_words.ensures.operations; same_rest = c.law_same_rest.ensures.same_rest })
    (record { begins = c.law_fits.ensures.start_fits; ends = c.law_fits.ensures.end_fits }) c.law_unrolled.ensures.rows
