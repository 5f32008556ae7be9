use Rattle.raw_steps.specs.Taking.{numbers}
use Rattle.raw_steps.specs.Left.{entries_of}
use Rattle.raw_steps.proofs.Fronts.{on_more}
use Rattle.raw_steps.proofs.weaving.weave_log.Goals as goal

pub returns-clause-on : goal.returns-clause-on
returns-clause-on c =
    on_more c.law_taken.ensures.both c.args.m.now c.take_log.new.m c.follow.new.m (entries_of c.args.left.now) (entries_of c.take_log.new.left)
    (entries_of c.follow.new.left) (numbers c.args.woven.now.items) (numbers c.take_log.new.woven.items) (numbers c.follow.new.woven.items)
    c.take_log.ensures.on c.follow.ensures.on
