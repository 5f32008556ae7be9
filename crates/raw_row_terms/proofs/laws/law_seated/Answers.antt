use Rattle.raw_row_terms.proofs.Seating.{each_is_seated}
use Rattle.raw_row_terms.proofs.laws.law_seated.Goals as goal

pub returns : goal.returns
returns c = each_is_seated
