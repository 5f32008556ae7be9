use Rattle.std.proofs.Common.{sym, ap, ◌∙◌}
use Rattle.raw_model.specs.Program.{ProgramSet}
use Rattle.raw_model.specs.Local.{Tile}
use Rattle.raw_model.specs.Machine.{is_stopped}
use Rattle.raw_prove.proofs.Ready.{ready_stopped}
use Rattle.raw_prove.proofs.Turning.{tile_idle}
use Rattle.raw_prove.proofs.turns.turn_tile.Goals as goal

pub returns-then-has_stopped-clause-turn : goal.returns-then-has_stopped-clause-turn
returns-then-has_stopped-clause-turn c =
    let l = c.args.unit.now.tile in
    tile_idle c.args.set.now c.args.p.0 l c.args.table.now c.args.wires.now
    (ready_stopped c.args.set.now c.args.p.0 (Tile l) c.args.wires.now
    (sym (ap (λ (g : ProgramSet). is_stopped g c.args.p.0 (Tile l)) c.set.view_is) ∙ sym c.has_stopped.ensures ∙ c.if-has_stopped.true))
