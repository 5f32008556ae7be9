use Rattle.raw_picture.proofs.Markup.{picture_made}
use Rattle.raw_picture.proofs.laws.law_no_markup.Goals as goal

pub returns : goal.returns
returns c = picture_made
