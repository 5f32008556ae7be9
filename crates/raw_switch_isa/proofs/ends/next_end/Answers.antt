use Rattle.raw_switch_isa.proofs.LeastEnd.{least_there, least_first, none_left}
use Rattle.raw_switch_isa.proofs.ends.next_end.Goals as goal

pub returns-then-rest-eq0-clause-least : goal.returns-then-rest-eq0-clause-least
returns-then-rest-eq0-clause-least c = λ end later before. none_left c.args.word c.args.from end later c.if-rest-eq0.true

pub returns-else-rest-eq0-clause-there : goal.returns-else-rest-eq0-clause-there
returns-else-rest-eq0-clause-there c = least_there c.args.word c.args.from c.ranges.word.fits

pub returns-else-rest-eq0-clause-least : goal.returns-else-rest-eq0-clause-least
returns-else-rest-eq0-clause-least c = λ end. least_first c.args.word c.args.from end c.ranges.word.fits
