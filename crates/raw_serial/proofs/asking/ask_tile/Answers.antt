use Rattle.std.proofs.Common.{◌||◌, false, sym, ap, refl, ◌∙◌}
use Rattle.std.specs.Prelude.{nat_le}
use Rattle.raw_model.specs.Program.{ProgramSet}
use Rattle.raw_model.specs.Local.{Tile}
use Rattle.raw_model.specs.Machine.{is_ended}
use Rattle.raw_processor.specs.Given.{taken_by, sent_by}
use Rattle.raw_serial.specs.Needs.{AreNeedsOf}
use Rattle.raw_serial.proofs.Stepping.{turn_unmet}
use Rattle.raw_serial.proofs.Unmet.{tile_needs}
use Rattle.raw_serial.proofs.asking.ask_tile.Goals as goal
use Rattle.raw_serial.proofs.asking.ask_tile.Goals.{After-tile_wires-needs}

needs : (c : After-tile_wires-needs) → AreNeedsOf c.args.set.now c.args.p.0 (Tile c.args.tile.now.state) c.args.ends.now (taken_by c.tile_wires-needs.result) (sent_by c.tile_wires-needs.result)
needs c =
    tile_needs c.args.set.now c.args.p.0 c.args.tile.now.state c.args.ends.now c.deref.result.now _ _ c.requires.ends.ends_are (c.deref.ensures.value ∙ c.requires.code)
    (c.tile_wires-needs.ensures.takes c.args.set.now.topo c.args.p.0 c.requires.ends.ends_are) (c.tile_wires-needs.ensures.sends c.args.set.now.topo c.args.p.0 c.requires.ends.ends_are)

pub unmet_by_tile-requires-clause-needs : goal.unmet_by_tile-requires-clause-needs
unmet_by_tile-requires-clause-needs c = record { p = c.args.p.0; l = Tile c.args.tile.now.state; needs = needs c }

pub returns : goal.returns
returns c =
    c.turn_unless.ensures
    ∙ turn_unmet c.args.set.now c.args.p.0 (Tile c.args.tile.now.state) c.args.wires.now false _
    (ap (λ (s : ProgramSet). is_ended c.args.tile.now.state.mark || nat_le s.limit c.args.tile.now.state.count) (sym c.set.view_is) ∙ sym c.tile_stopped.ensures ∙ c.if-tile_stopped.false) refl
    (sym (c.unmet_by_tile.ensures c.args.p.0 (Tile c.args.tile.now.state) (needs (goal.at.returns c).After-tile_wires-needs)))
