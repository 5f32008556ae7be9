use Rattle.raw_steady.proofs.Words.{each_same_clock, each_keeps_time, each_proved_keeps_time}
use Rattle.raw_steady.proofs.laws.law_words.Goals as goal

pub returns-clause-alike : goal.returns-clause-alike
returns-clause-alike c = each_same_clock c.law_moves_alike.ensures

pub returns-clause-keeps : goal.returns-clause-keeps
returns-clause-keeps c = each_keeps_time c.law_moves_alike.ensures

pub returns-clause-proved : goal.returns-clause-proved
returns-clause-proved c = each_proved_keeps_time c.law_moves_alike.ensures
