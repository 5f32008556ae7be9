use Rattle.raw_live.proofs.AtRest.{handed_on}
use Rattle.raw_live.proofs.engine.hand_on.Goals as goal

pub returns-clause-items : goal.returns-clause-items
returns-clause-items g c =
    handed_on c.args.engine.now c.requires.sent.rest c.procs_of-procs.ensures.valid _ c.deref.ensures.value _ c.procs_of-procs.ensures.value c.args.to.now.items c.put_all_new.new.to.items c.put_all_new.result c.put_all_new.ensures.items
