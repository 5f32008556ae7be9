use Rattle.std.proofs.Common.{None, []}
use Rattle.raw_processor.specs.declared.processor.Processor.TheVariants as a
use Rattle.raw_fabric_step.specs.Units.{mine}
use Rattle.raw_fabric.proofs.Turned.{counts_none, owes_nothing, unit_stepped}
use Rattle.raw_fabric.proofs.units.turn_source.Goals as goal

pub returns-in-Ok-clause-unit : goal.returns-in-Ok-clause-unit
returns-in-Ok-clause-unit c =
    let r = c.requires in
    let about = c.args.words.now.key in
    let post = c.args.post.now in
    let v = c.args.seat.now.me.0 in
    let w = c.step_source.new.seat.me.0 in
    let x = a.Source c.args.port.now in
    let y = a.Source c.step_source.new.port in
    let h = c.in-Ok.ensures.stepped.stepped in
    unit_stepped about r.stands.stands.seated.post_is.valid post.p post.index c.in-Ok.after x y None v w r.stands.unit r.stands.going h
    tt tt
    (counts_none about post.p (mine v post.index).touches (mine w post.index).touches [] 0 h.touched_is r.stands.unit.counts_touches)
    (owes_nothing about post.p (mine w post.index).touches)
