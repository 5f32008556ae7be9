use Rattle.raw_picture.proofs.Runs.{same_picture}
use Rattle.raw_picture.proofs.laws.law_same_picture.Goals as goal

pub returns : goal.returns
returns c = same_picture
