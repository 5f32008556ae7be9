use Rattle.raw_live.proofs.Fronts.{taken_begin, taken_whole}
use Rattle.raw_live.proofs.laws.law_taken.Goals as goal

pub returns-clause-front : goal.returns-clause-front
returns-clause-front c = taken_begin

pub returns-clause-whole : goal.returns-clause-whole
returns-clause-whole c = taken_whole
