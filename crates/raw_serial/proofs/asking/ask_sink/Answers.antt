use Rattle.std.proofs.Common.{sym, ap, refl, false, ◌∙◌}
use Rattle.std.specs.Prelude.{nat_le}
use Rattle.raw_model.specs.Local.{Sink}
use Rattle.raw_processor.specs.Given.{wires_in}
use Rattle.raw_serial.specs.Needs.{AreNeedsOf}
use Rattle.raw_serial.proofs.Stepping.{turn_unmet}
use Rattle.raw_serial.proofs.asking.ask_sink.Goals as goal
use Rattle.raw_serial.proofs.asking.ask_sink.Goals.{After-sink_needs}

needs : (c : After-sink_needs)
    → AreNeedsOf c.args.set.now c.args.p.0 (Sink c.args.state.now.local) c.args.ends.now (wires_in c.sink_needs.result.inputs c.args.ends.now.inputs) (wires_in c.sink_needs.result.outputs c.args.ends.now.outputs)
needs c = record {
  ends = c.requires.ends.ends_are;
  takes = c.sink_needs.ensures.takes c.args.set.now.topo c.args.p.0 c.args.ends.now c.requires.ends.ends_are;
  sends = c.sink_needs.ensures.sends c.args.ends.now;
}

pub unmet_at-requires-clause-needs : goal.unmet_at-requires-clause-needs
unmet_at-requires-clause-needs c = record { p = c.args.p.0; l = Sink c.args.state.now.local; needs = needs c }

pub returns : goal.returns
returns c =
    c.turn_unless.ensures
    ∙ turn_unmet c.args.set.now c.args.p.0 (Sink c.args.state.now.local) c.args.wires.now false _
    (ap (λ n. nat_le n c.args.state.now.local.done) (sym c.capacity_of.ensures) ∙ sym c.sink_stopped.ensures ∙ c.if-sink_stopped.false) refl
    (sym (c.unmet_at.ensures c.args.p.0 (Sink c.args.state.now.local) (needs (goal.at.returns c).After-sink_needs)))
