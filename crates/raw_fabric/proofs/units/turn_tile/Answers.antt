use Rattle.std.proofs.Common.{sym, ap, ◌∙◌, subst, arith}
use Rattle.std.specs.Option.{option_to_list}
use Rattle.raw_grid.specs.declared.parts.ProcKind.TheVariants as proc
use Rattle.raw_processor.specs.declared.processor.Processor.TheVariants as a
use Rattle.raw_serial.proofs.Placed.{placed}
use Rattle.raw_model.specs.Local.{Tile}
use Rattle.raw_model.specs.Start.{FitsTile}
use Rattle.raw_fabric_step.specs.Units.{mine}
use Rattle.raw_fabric_step.specs.Fired.{HasStepped}
use Rattle.raw_model.specs.Cache.{stream_of}
use Rattle.raw_processor.specs.Touching.{owed_after}
use Rattle.raw_fabric.proofs.Turned.{counts_more, owes_more, unit_stepped, tile_counted}
use Rattle.raw_fabric.proofs.units.turn_tile.Goals as goal

pub step_tile-requires-clause-tile : goal.step_tile-requires-clause-tile
step_tile-requires-clause-tile c =
    let unit = c.requires.stands.unit in
    let set = c.args.words.now.key.set in
    let code_is = c.deref.ensures.value ∙ unit.kept in
    record { tile = placed set.topo c.args.post.now.p proc.Tile unit.fits.0; code_is = code_is; fits = subst (λ code. FitsTile set.limit code c.args.tile.now.state) (sym code_is) unit.fits.1 }

pub returns-in-Ok-clause-unit : goal.returns-in-Ok-clause-unit
returns-in-Ok-clause-unit c =
    let r = c.requires in
    let about = c.args.words.now.key in
    let post = c.args.post.now in
    let v = c.args.seat.now.me.0 in
    let w = c.step_tile.new.seat.me.0 in
    let old = c.args.tile.now in
    let new = c.touch.new.tile in
    let h = c.in-Ok.ensures.stepped.stepped in
    let touch = c.touch.ensures in
    let more = tile_counted about post.p post.index c.in-Ok.after old.state c.step_tile.new.state c.in-Ok.touched v w r.stands.unit.local_is h in
    let few = touch.few in
    let before = r.stands.unit.few in
    let state = ap (λ l. l.count) touch.state in
    let stream = ap (λ s. stream_of s post.p) r.set in
    let counts =
    counts_more about post.p (mine v post.index).touches (mine w post.index).touches (option_to_list c.in-Ok.touched) old.cache new.cache old.misses new.misses h.touched_is touch.stands touch.missed r.stands.unit.counts_touches in
    unit_stepped about r.stands.stands.seated.post_is.valid post.p post.index c.in-Ok.after (a.Tile old) (a.Tile new) c.in-Ok.touched v w r.stands.unit r.stands.going
    (subst (λ l. HasStepped about post.p post.index c.in-Ok.after (Tile l) c.in-Ok.touched v w) (sym touch.state) h)
    (ap (λ code. code.items) touch.code ∙ r.stands.unit.kept) (omega arith)
    counts
    (owes_more about post.p (mine v post.index).touches (mine w post.index).touches (option_to_list c.in-Ok.touched) old.cache new.cache old.misses new.misses new.owed h.touched_is r.stands.unit.counts_touches counts
    (touch.owed ∙ ap (λ stream. owed_after stream old.misses new.misses) stream))
