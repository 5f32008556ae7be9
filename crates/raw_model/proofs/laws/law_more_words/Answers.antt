use Rattle.raw_model.proofs.MoreWords.{same_start, runs_on}
use Rattle.raw_model.proofs.laws.law_more_words.Goals as goal

pub returns : goal.returns
returns c = record { start = same_start; runs = runs_on }
