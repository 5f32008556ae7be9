use Rattle.std.proofs.Common.{◌≡◌, length, false, sym, subst, arith}
use Rattle.raw_model.specs.Local.{Sink, PortLocal}
use Rattle.raw_serial.specs.declared.turn.Turn.{Turn as SerialTurn}
use Rattle.raw_serial.specs.declared.turn.Turn.TheVariants as serial
use Rattle.raw_serial.specs.Turns.{IsTurn as IsSerialTurn}
use Rattle.raw_prove.proofs.Turning.{sink_fired, sink_idle, sink_kept, sink_same}
use Rattle.raw_prove.proofs.turns.turn_sink.Goals as goal
use Rattle.raw_prove.proofs.turns.turn_sink.Goals.{In-Fired}

whole : (c : In-Fired) → IsSerialTurn c.args.set.now c.args.p.0 false serial.Fired (Sink c.args.port.now.local) (Sink c.turn_sink.new.state.local) c.args.wires.now c.turn_sink.new.wires
whole c =
    subst (λ (t : SerialTurn). IsSerialTurn c.args.set.now c.args.p.0 false t (Sink c.args.port.now.local) (Sink c.turn_sink.new.state.local) c.args.wires.now c.turn_sink.new.wires)
    c.in-Fired.is c.turn_sink.ensures.turn.whole

pub returns-in-Fired-clause-turn : goal.returns-in-Fired-clause-turn
returns-in-Fired-clause-turn c = λ nodes.
    sink_fired c.args.set.now c.args.p.0 c.args.port.now.local nodes c.args.wires.now c.turn_sink.new.state.local c.turn_sink.new.wires
    (whole (goal.at.returns-in-Fired-clause-turn c).In-Fired)

pub returns-in-Fired-clause-kept : goal.returns-in-Fired-clause-kept
returns-in-Fired-clause-kept c = record {
  kind = c.requires.unit.kind;
  got = sink_kept c.args.set.now c.args.p.0 c.args.port.now.local c.turn_sink.new.state.local c.args.wires.now c.turn_sink.new.wires
      (whole (goal.at.returns-in-Fired-clause-kept c).In-Fired) c.requires.unit.got;
  room = omega (arith, c.turn_sink.ensures.turn.room, c.requires.unit.room);
}

pub returns-in_default : goal.returns-in_default
returns-in_default c =
    let l : PortLocal = c.args.port.now.local in
    let next : PortLocal = c.turn_sink.new.state.local in
    record {
      turn = λ nodes. sink_idle c.args.set.now c.args.p.0 l nodes c.args.wires.now c.turn_sink.result next c.turn_sink.new.wires c.in_default.not-Fired c.turn_sink.ensures.turn.whole;
      kept = record {
        kind = c.requires.unit.kind;
        got = subst (λ (k : PortLocal). length k.got ≡ k.done)
            (sym (sink_same c.args.set.now c.args.p.0 l next c.args.wires.now c.turn_sink.new.wires c.turn_sink.result c.in_default.not-Fired c.turn_sink.ensures.turn.whole))
            c.requires.unit.got;
        room = omega (arith, c.turn_sink.ensures.turn.room, c.requires.unit.room);
      };
    }
