use Rattle.std.proofs.Common.{◌≡◌, ◌+◌, List, length, Some, refl, sym, ap, subst, ◌∙◌}
use Rattle.std.specs.Prelude.{slice_get}
use Rattle.std.proofs.lemmas.Option.{slice_get_read}
use Rattle.raw_model.specs.Program.{ProgramSet, TileProgram, IsSet}
use Rattle.raw_model.specs.Local.{Switch}
use Rattle.raw_model.specs.Start.{first_switch}
use Rattle.raw_prove.specs.declared.unit.Unit.{Unit}
use Rattle.raw_prove.specs.declared.unit.Unit.TheVariants as a
use Rattle.raw_prove.specs.Units.{IsUnit}
use Rattle.raw_prove.proofs.Starting.{GrowsSo, grows_step, switch_unit}
use Rattle.raw_prove.proofs.opening.open_switches.Goals as goal

pub loop-program-preserved : goal.loop-program-preserved
loop-program-preserved c =
    let set : ProgramSet = c.args.set.now in
    let i = c.loop-program.program-index in
    let program : TileProgram = c.program-item.result in
    let tiles : c.deref-program-items.result.now ≡ set.tiles = c.deref-program-items.ensures.value ∙ ap (λ (g : ProgramSet). g.tiles) c.set.view_is in
    let here : slice_get set.tiles i ≡ Some program =
    subst (λ (ts : List TileProgram). slice_get ts i ≡ Some program) tiles
    (slice_get_read c.deref-program-items.result.now (length c.deref-program-items.result.now) i program refl c.loop-program-test.true c.program-item.is) in
    let unit : Unit = a.Switch c.in_ok-switch.switch in
    let valid : IsSet set = subst IsSet c.set.view_is c.set.invariant in
    subst (λ (us : List Unit). GrowsSo set (λ (tile : TileProgram). Switch (first_switch tile.switch)) set.tiles c.args.units.now.items us (i + 1)) (sym c.in_ok-push.ensures.items)
    (grows_step set (λ (tile : TileProgram). Switch (first_switch tile.switch)) set.tiles c.args.units.now.items c.loop-program.units.items i program unit here
    (ap Switch c.in_ok-switch.ensures.state)
    (subst (λ n. IsUnit set (n + i) unit) (sym c.requires.tiles) (switch_unit set i program here valid c.in_ok-switch.switch c.in_ok-switch.ensures.code c.in_ok-switch.ensures.state))
    c.loop-program.invariant)
