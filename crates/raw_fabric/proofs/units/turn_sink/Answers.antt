use Rattle.std.proofs.Common.{◌≤◌, None, [], sym, subst}
use Rattle.raw_model.specs.Machine.{port_program, capacity_of}
use Rattle.raw_processor.specs.declared.processor.Processor.TheVariants as a
use Rattle.raw_fabric_step.specs.Units.{mine}
use Rattle.raw_fabric.proofs.Turned.{counts_none, owes_nothing, unit_stepped}
use Rattle.raw_fabric.proofs.units.turn_sink.Goals as goal

pub returns-in-Ok-clause-unit : goal.returns-in-Ok-clause-unit
returns-in-Ok-clause-unit c =
    let r = c.requires in
    let about = c.args.words.now.key in
    let post = c.args.post.now in
    let v = c.args.seat.now.me.0 in
    let w = c.step_sink.new.seat.me.0 in
    let x = a.Sink c.args.port.now in
    let y = a.Sink c.step_sink.new.port in
    let h = c.in-Ok.ensures.stepped.stepped in
    unit_stepped about r.stands.stands.seated.post_is.valid post.p post.index c.in-Ok.after x y None v w r.stands.unit r.stands.going h
    (subst (λ m. capacity_of (port_program about.set post.p) ≤ m) (sym c.step_sink.ensures.room) r.stands.unit.kept) tt
    (counts_none about post.p (mine v post.index).touches (mine w post.index).touches [] 0 h.touched_is r.stands.unit.counts_touches)
    (owes_nothing about post.p (mine w post.index).touches)
