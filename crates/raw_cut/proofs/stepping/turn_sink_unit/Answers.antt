use Rattle.std.proofs.Common.{◌≡◌, [], length, false, sym, subst, arith}
use Rattle.raw_model.specs.Local.{Sink, PortLocal}
use Rattle.raw_serial.specs.declared.turn.Turn.{Turn as SerialTurn}
use Rattle.raw_serial.specs.declared.turn.Turn.TheVariants as serial
use Rattle.raw_serial.specs.Turns.{IsTurn as IsSerialTurn}
use Rattle.raw_cut.proofs.Turning.{sink_fired, port_idle, sink_kept, sink_same}
use Rattle.raw_cut.proofs.stepping.turn_sink_unit.Goals as goal
use Rattle.raw_cut.proofs.stepping.turn_sink_unit.Goals.{In-Fired}

whole : (c : In-Fired) → IsSerialTurn c.args.set.now c.args.p.0 false serial.Fired (Sink c.args.port.now.local) (Sink c.turn_sink.new.state.local) c.args.wires.now c.turn_sink.new.wires
whole c =
    subst (λ (t : SerialTurn). IsSerialTurn c.args.set.now c.args.p.0 false t (Sink c.args.port.now.local) (Sink c.turn_sink.new.state.local) c.args.wires.now c.turn_sink.new.wires)
    c.in-Fired.is c.turn_sink.ensures.turn.whole

pub returns-in-Fired-clause-turn : goal.returns-in-Fired-clause-turn
returns-in-Fired-clause-turn c = λ nodes.
    sink_fired c.args.set.now c.args.p.0 c.args.wires.now c.turn_sink.new.wires nodes c.args.port.now.local c.turn_sink.new.state.local
    (whole (goal.at.returns-in-Fired-clause-turn c).In-Fired)

pub returns-in-Fired-clause-kept : goal.returns-in-Fired-clause-kept
returns-in-Fired-clause-kept c = λ spare kept. record {
  kind = kept.kind;
  got = sink_kept c.args.set.now c.args.p.0 c.args.wires.now c.turn_sink.new.wires [] c.args.port.now.local c.turn_sink.new.state.local
      (whole (goal.at.returns-in-Fired-clause-kept c).In-Fired) kept.got;
  room = omega (arith, c.turn_sink.ensures.turn.room, kept.room);
}

pub returns-in_default : goal.returns-in_default
returns-in_default c =
    let l : PortLocal = c.args.port.now.local in
    let next : PortLocal = c.turn_sink.new.state.local in
    record {
      turn = λ nodes. port_idle c.args.set.now c.args.p.0 c.args.wires.now c.turn_sink.new.wires nodes (Sink l) c.turn_sink.result (Sink next) c.in_default.not-Fired c.turn_sink.ensures.turn.whole;
      kept = λ spare kept. record {
        kind = kept.kind;
        got = subst (λ (k : PortLocal). length k.got ≡ k.done)
            (sym (sink_same c.args.set.now c.args.p.0 c.args.wires.now c.turn_sink.new.wires [] l next c.turn_sink.result c.in_default.not-Fired c.turn_sink.ensures.turn.whole))
            kept.got;
        room = omega (arith, c.turn_sink.ensures.turn.room, kept.room);
      };
    }
