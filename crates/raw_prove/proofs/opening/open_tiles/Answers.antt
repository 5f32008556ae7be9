use Rattle.std.proofs.Common.{◌≡◌, ℕ, ◌+◌, List, length, Some, Err, rules, refl, sym, ap, subst, ◌∙◌}
use Rattle.std.specs.Prelude.{slice_get}
use Rattle.std.proofs.lemmas.Option.{slice_get_read}
use Rattle.raw_model.specs.Program.{ProgramSet, TileProgram, IsTileProgram, IsSet}
use Rattle.raw_serial.proofs.Fields.{each_more}
use Rattle.raw_term.specs.declared.refusal.TermRefusal.TheVariants.{TooMany}
use Rattle.raw_term.specs.Terms.{Overflows}
use Rattle.raw_term.specs.TermMachine.{TermMemory}
use Rattle.raw_model.proofs.Fed.{all_at}
use Rattle.raw_prove.specs.declared.unit.Unit.{Unit}
use Rattle.raw_prove.specs.declared.unit.Unit.TheVariants as a
use Rattle.raw_prove.specs.Units.{IsUnit, AreUnits}
use Rattle.raw_prove.proofs.Starting.{TilesSo, tiles_step, tiles_over, tile_unit}
use Rattle.raw_prove.proofs.opening.open_tiles.Goals as goal

pub open_tile-requires : goal.open_tile-requires
open_tile-requires c =
    let set : ProgramSet = c.args.set.now in
    let i : ℕ = c.loop-program.program-index in
    let program : TileProgram = c.program-item.result in
    let tiles : c.deref-program-items.result.now ≡ set.tiles = c.deref-program-items.ensures.value ∙ ap (λ (g : ProgramSet). g.tiles) c.set.view_is in
    let here : slice_get set.tiles i ≡ Some program =
    subst (λ (ts : List TileProgram). slice_get ts i ≡ Some program) tiles
    (slice_get_read c.deref-program-items.result.now (length c.deref-program-items.result.now) i program refl c.loop-program-test.true c.program-item.is) in
    let valid : IsSet set = subst IsSet c.set.view_is c.set.invariant in
    (all_at IsTileProgram set.tiles valid.tile_programs i program here).cells

pub returns-in_err-tile-clause-too_many : goal.returns-in_err-tile-clause-too_many
returns-in_err-tile-clause-too_many c = λ e.
    let set : ProgramSet = c.args.set.now in
    let i : ℕ = c.loop-program.program-index in
    let program : TileProgram = c.program-item.result in
    let tiles : c.deref-program-items.result.now ≡ set.tiles = c.deref-program-items.ensures.value ∙ ap (λ (g : ProgramSet). g.tiles) c.set.view_is in
    let here : slice_get set.tiles i ≡ Some program =
    subst (λ (ts : List TileProgram). slice_get ts i ≡ Some program) tiles
    (slice_get_read c.deref-program-items.result.now (length c.deref-program-items.result.now) i program refl c.loop-program-test.true c.program-item.is) in
    let err : c.open_tile.result ≡ Err TooMany = search (rules, e, c.from_residual-in_err-tile.ensures, c.in_err-tile.is, c.branch-tile.ensures) in
    let so : TilesSo c.args.table.now set.tiles c.loop-program.table c.loop-program.units.items i = c.loop-program.invariant.0 in
    subst Overflows (sym so.nodes) (tiles_over c.loop-program.table set.tiles i program here (c.open_tile.ensures.too_many err))

pub loop-program-preserved : goal.loop-program-preserved
loop-program-preserved c =
    let set : ProgramSet = c.args.set.now in
    let i : ℕ = c.loop-program.program-index in
    let program : TileProgram = c.program-item.result in
    let tiles : c.deref-program-items.result.now ≡ set.tiles = c.deref-program-items.ensures.value ∙ ap (λ (g : ProgramSet). g.tiles) c.set.view_is in
    let here : slice_get set.tiles i ≡ Some program =
    subst (λ (ts : List TileProgram). slice_get ts i ≡ Some program) tiles
    (slice_get_read c.deref-program-items.result.now (length c.deref-program-items.result.now) i program refl c.loop-program-test.true c.program-item.is) in
    let valid : IsSet set = subst IsSet c.set.view_is c.set.invariant in
    let unit : Unit = a.Tile c.in_ok-tile.tile in
    let opened = c.in_ok-tile.ensures.tile in
    let so : TilesSo c.args.table.now set.tiles c.loop-program.table c.loop-program.units.items i = c.loop-program.invariant.0 in (
      subst (λ (us : List Unit). TilesSo c.args.table.now set.tiles c.open_tile.new.table us (i + 1)) (sym c.in_ok-push.ensures.items)
          (tiles_step c.args.table.now set.tiles c.loop-program.table c.open_tile.new.table c.loop-program.units.items i program unit here
          (ap (λ (m : TermMemory). m.nodes) opened.memory) opened.local so),
      subst (λ (us : List Unit). AreUnits set us) (sym c.in_ok-push.ensures.items)
          (each_more (IsUnit set) c.loop-program.units.items unit c.loop-program.invariant.1
          (subst (λ n. IsUnit set n unit) (sym so.many) (tile_unit set i program here valid c.in_ok-tile.tile c.loop-program.table c.open_tile.new.table opened))),
    )
