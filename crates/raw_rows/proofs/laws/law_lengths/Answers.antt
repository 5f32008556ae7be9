use Rattle.raw_rows.proofs.Lengths.{lengths_are_met, lengths_meet}
use Rattle.raw_rows.proofs.laws.law_lengths.Goals as goal

pub returns-clause-rows : goal.returns-clause-rows
returns-clause-rows c = lengths_are_met (record { words = c.law_words.ensures.operations; same_rest = c.law_same_rest.ensures.same_rest })

pub returns-clause-unrolled : goal.returns-clause-unrolled
returns-clause-unrolled c = lengths_meet (record { words = c.law_words.ensures.operations; same_rest = c.law_same_rest.ensures.same_rest }) c.law_unrolled.ensures.rows
