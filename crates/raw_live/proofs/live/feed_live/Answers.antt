use Rattle.raw_live.proofs.Living.{lives_of, lives_none}
use Rattle.raw_live.proofs.live.feed_live.Goals as goal

pub returns-in_default : goal.returns-in_default
returns-in_default g c = lives_none _ _ _ _ _ _ c.requires.starts.valid

pub returns : goal.returns
returns g c = lives_of _ _ _ _ _ _ _ _ _ _ _ _ _ _ c.run_and_close-answers.ensures c.finish.ensures
