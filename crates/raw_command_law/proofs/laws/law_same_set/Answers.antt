use Rattle.raw_command_law.proofs.Images.{gives_back, stands_for}
use Rattle.raw_command_law.proofs.laws.law_same_set.Goals as goal

pub returns-clause-listing : goal.returns-clause-listing
returns-clause-listing c = gives_back c.law_one_input.ensures c.law_read_back.ensures.back c.law_read_back.ensures.short c.law_read_back-2.ensures.back c.law_read_back-2.ensures.short c.law_read_back-2.ensures.second

pub returns-clause-image : goal.returns-clause-image
returns-clause-image c = stands_for c.law_one_input.ensures c.law_read_back.ensures.back c.law_read_back.ensures.short c.law_read_back-2.ensures.back c.law_read_back-2.ensures.short c.law_read_back-2.ensures.second
