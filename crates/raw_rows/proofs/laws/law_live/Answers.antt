use Rattle.raw_rows.proofs.Live.{live_rows_are_met, each_number_is_met}
use Rattle.raw_rows.proofs.laws.law_live.Goals as goal

pub returns-clause-kernels : goal.returns-clause-kernels
returns-clause-kernels c = live_rows_are_met (record { words = c.law_words.ensures.operations; same_rest = c.law_same_rest.ensures.same_rest })

pub returns-clause-numbers : goal.returns-clause-numbers
returns-clause-numbers c = each_number_is_met (record { words = c.law_words.ensures.operations; same_rest = c.law_same_rest.ensures.same_rest })
