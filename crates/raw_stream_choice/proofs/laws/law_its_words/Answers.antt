use Rattle.raw_stream_choice.proofs.Words.{each_has_its_words}
use Rattle.raw_stream_choice.proofs.laws.law_its_words.Goals as goal

pub returns : goal.returns
returns c = each_has_its_words
