use Rattle.raw_row_terms.proofs.Meeting.{rows_are_right, rows_rest}
use Rattle.raw_row_terms.proofs.laws.law_rows_right.Goals as goal

pub returns-clause-right : goal.returns-clause-right
returns-clause-right c = rows_are_right (record { words = c.law_words.ensures.operations; same_rest = c.law_same_rest.ensures.same_rest })

pub returns-clause-rest : goal.returns-clause-rest
returns-clause-rest c = rows_rest

pub returns-clause-refuted : goal.returns-clause-refuted
returns-clause-refuted c = λ set s inputs refuted meets.
    refuted.wrong refuted.some.0 refuted.some.1 ((meets inputs refuted.are).right refuted.some.0 refuted.some.1)
