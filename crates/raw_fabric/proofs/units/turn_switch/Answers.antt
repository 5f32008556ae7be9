use Rattle.std.proofs.Common.{None, [], sym, ◌∙◌, subst}
use Rattle.raw_grid.specs.declared.parts.ProcKind.TheVariants as proc
use Rattle.raw_processor.specs.declared.processor.Processor.TheVariants as a
use Rattle.raw_serial.proofs.Placed.{placed}
use Rattle.raw_model.specs.Start.{FitsSwitch}
use Rattle.raw_fabric_step.specs.Units.{mine}
use Rattle.raw_fabric.proofs.Turned.{counts_none, owes_nothing, unit_stepped}
use Rattle.raw_fabric.proofs.units.turn_switch.Goals as goal

pub step_switch-requires-clause-switch : goal.step_switch-requires-clause-switch
step_switch-requires-clause-switch c =
    let unit = c.requires.stands.unit in
    let set = c.args.words.now.key.set in
    let code_is = c.deref.ensures.value ∙ unit.kept in
    record { switch = (placed set.topo c.args.post.now.p proc.Switch unit.fits.0).0; code_is = code_is; fits = subst (λ code. FitsSwitch set.limit code c.args.switch.now.state) (sym code_is) unit.fits.1 }

pub returns-in-Ok-clause-unit : goal.returns-in-Ok-clause-unit
returns-in-Ok-clause-unit c =
    let r = c.requires in
    let about = c.args.words.now.key in
    let post = c.args.post.now in
    let v = c.args.seat.now.me.0 in
    let w = c.step_switch.new.seat.me.0 in
    let old = c.args.switch.now in
    let x = a.Switch old in
    let y = a.Switch (record old { state = c.step_switch.new.state }) in
    let h = c.in-Ok.ensures.stepped in
    unit_stepped about r.stands.stands.seated.post_is.valid post.p post.index c.in-Ok.after x y None v w r.stands.unit r.stands.going h.stepped r.stands.unit.kept tt
    (counts_none about post.p (mine v post.index).touches (mine w post.index).touches [] 0 h.stepped.touched_is r.stands.unit.counts_touches)
    (owes_nothing about post.p (mine w post.index).touches)
