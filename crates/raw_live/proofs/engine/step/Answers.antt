use Rattle.std.proofs.Common.{refl}
use Rattle.raw_live.specs.Engine.{with_put}
use Rattle.raw_live.specs.Due.{new_words}
use Rattle.raw_live.proofs.AtRest.{next_sent, next_put}
use Rattle.raw_live.proofs.engine.step.Goals as goal

pub returns-in-Err-clause-items : goal.returns-in-Err-clause-items
returns-in-Err-clause-items g c =
    let old = c.args.engine.now in record { rest = new_words old.set (with_put old.set c.args.port c.args.word); is = refl }

pub hand_on-requires : goal.hand_on-requires
hand_on-requires g c = record { sent = next_sent c.args.engine.now c.feed.new.engine c.args.port c.args.word c.requires.rests c.in_default.ensures.fed }

pub returns-clause-items : goal.returns-clause-items
returns-clause-items g c =
    next_put c.args.engine.now c.feed.new.engine c.args.port c.args.word c.requires.rests c.in_default.ensures.fed c.args.to.now.items c.hand_on.new.to.items c.hand_on.result c.hand_on.ensures.items
