use Rattle.std.proofs.Common.{sym, subst}
use Rattle.std.proofs.lemmas.Result.{IfOk-weaker}
use Rattle.raw_model.specs.Local.{Tile, Switch, Source, Sink}
use Rattle.raw_prove.specs.declared.unit.Unit.{Unit}
use Rattle.raw_prove.specs.Units.{local_of}
use Rattle.raw_prove.specs.Turns.{IsTurn}
use Rattle.raw_cut.specs.Kept.{IsUnitWith}
use Rattle.raw_cut.proofs.Turning.{tile_turn, switch_turn}
use Rattle.raw_cut.proofs.stepping.turn_unit.Goals as goal

pub returns-in-Tile-clause-turn : goal.returns-in-Tile-clause-turn
returns-in-Tile-clause-turn c =
    IfOk-weaker c.turn_tile.result _ _
    (λ turn is.
    subst (λ (u : Unit). IsTurn c.args.set.now c.args.p.0 c.args.table.now (local_of u) c.args.wires.now turn c.turn_tile.new.table (Tile c.turn_tile.new.unit.tile) c.turn_tile.new.wires) (sym c.in-Tile.is)
    (tile_turn c.args.set.now c.args.p.0 c.args.wires.now c.args.table.now c.turn_tile.new.table c.turn_tile.new.wires turn c.in-Tile.tile.tile c.turn_tile.new.unit.tile is))
    c.turn_tile.ensures.turn

pub returns-in-Switch-clause-turn : goal.returns-in-Switch-clause-turn
returns-in-Switch-clause-turn c =
    IfOk-weaker c.turn_switch.result _ _
    (λ turn is.
    subst (λ (u : Unit). IsTurn c.args.set.now c.args.p.0 c.args.table.now (local_of u) c.args.wires.now turn c.turn_switch.new.table (Switch c.turn_switch.new.unit.state) c.turn_switch.new.wires) (sym c.in-Switch.is)
    (switch_turn c.args.set.now c.args.p.0 c.args.wires.now c.args.table.now c.turn_switch.new.table c.turn_switch.new.wires turn c.in-Switch.switch.state c.turn_switch.new.unit.state is))
    c.turn_switch.ensures.turn

pub returns-in-Source-clause-turn : goal.returns-in-Source-clause-turn
returns-in-Source-clause-turn c =
    subst (λ (u : Unit). IsTurn c.args.set.now c.args.p.0 c.args.table.now (local_of u) c.args.wires.now c.turn_source_unit.result c.args.table.now (Source c.turn_source_unit.new.unit.port.local) c.turn_source_unit.new.wires)
    (sym c.in-Source.is) (c.turn_source_unit.ensures c.args.table.now)

pub returns-in-Sink-clause-turn : goal.returns-in-Sink-clause-turn
returns-in-Sink-clause-turn c =
    subst (λ (u : Unit). IsTurn c.args.set.now c.args.p.0 c.args.table.now (local_of u) c.args.wires.now c.turn_sink_unit.result c.args.table.now (Sink c.turn_sink_unit.new.port.local) c.turn_sink_unit.new.wires)
    (sym c.in-Sink.is) (c.turn_sink_unit.ensures.turn c.args.table.now)

pub returns-in-Source-clause-kept : goal.returns-in-Source-clause-kept
returns-in-Source-clause-kept c = λ spare kept. subst (λ (u : Unit). IsUnitWith c.args.set.now spare c.args.p.0 u) c.in-Source.is kept

pub returns-in-Sink-clause-kept : goal.returns-in-Sink-clause-kept
returns-in-Sink-clause-kept c = λ spare kept. c.turn_sink_unit.ensures.kept spare (subst (λ (u : Unit). IsUnitWith c.args.set.now spare c.args.p.0 u) c.in-Sink.is kept)
