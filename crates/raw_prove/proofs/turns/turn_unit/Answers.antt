use Rattle.std.proofs.Common.{sym, subst}
use Rattle.raw_model.specs.Local.{Sink}
use Rattle.raw_term.specs.TermMachine.{numbered}
use Rattle.raw_prove.specs.declared.unit.Unit.{Unit}
use Rattle.raw_prove.specs.Units.{local_of}
use Rattle.raw_prove.specs.Turns.{IsTurn}
use Rattle.raw_prove.proofs.turns.turn_unit.Goals as goal

pub returns-in-Sink-clause-turn : goal.returns-in-Sink-clause-turn
returns-in-Sink-clause-turn c =
    subst (λ (u : Unit). IsTurn (numbered c.args.set.now) c.args.p.0 c.args.table.now (local_of u) c.args.wires.now c.turn_sink.result c.args.table.now (Sink c.turn_sink.new.port.local) c.turn_sink.new.wires)
    (sym c.in-Sink.is) (c.turn_sink.ensures.turn c.args.table.now)
