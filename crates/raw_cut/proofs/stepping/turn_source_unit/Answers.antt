use Rattle.std.proofs.Common.{false, subst}
use Rattle.raw_model.specs.Local.{Source}
use Rattle.raw_serial.specs.declared.turn.Turn.{Turn as SerialTurn}
use Rattle.raw_serial.specs.Turns.{IsTurn as IsSerialTurn}
use Rattle.raw_cut.proofs.Turning.{source_fired, port_idle}
use Rattle.raw_cut.proofs.stepping.turn_source_unit.Goals as goal

pub returns-in-Fired : goal.returns-in-Fired
returns-in-Fired c = λ nodes.
    source_fired c.args.set.now c.args.p.0 c.args.wires.now c.turn_source.new.wires nodes c.args.unit.now.port.local c.turn_source.new.state.local
    (subst (λ (t : SerialTurn). IsSerialTurn c.args.set.now c.args.p.0 false t (Source c.args.unit.now.port.local) (Source c.turn_source.new.state.local) c.args.wires.now c.turn_source.new.wires)
    c.in-Fired.is c.turn_source.ensures.turn.whole)

pub returns-in_default : goal.returns-in_default
returns-in_default c = λ nodes.
    port_idle c.args.set.now c.args.p.0 c.args.wires.now c.turn_source.new.wires nodes (Source c.args.unit.now.port.local) c.turn_source.result (Source c.turn_source.new.state.local)
    c.in_default.not-Fired c.turn_source.ensures.turn.whole
