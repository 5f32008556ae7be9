use Rattle.raw_prove.proofs.Claiming.{classes_told}
use Rattle.raw_prove.proofs.comparing.by_classes.Goals as goal

pub returns-in-Ok : goal.returns-in-Ok
returns-in-Ok c =
    classes_told c.args.table.now c.args.got.now c.args.claimed.now c.args.least c.term_classes.new.table c.in-Ok.classes.items c.deref.result.now
    c.in-Ok.ensures.classes c.in-Ok.ensures.each c.deref.ensures.value c.compared_classes.result c.compared_classes.ensures
