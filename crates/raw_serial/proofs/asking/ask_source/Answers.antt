use Rattle.std.proofs.Common.{length, sym, ap, refl, false, ◌∙◌}
use Rattle.std.specs.Prelude.{nat_le}
use Rattle.raw_model.specs.Local.{Source}
use Rattle.raw_processor.specs.Given.{wires_in}
use Rattle.raw_serial.specs.Needs.{AreNeedsOf}
use Rattle.raw_serial.proofs.Stepping.{turn_unmet}
use Rattle.raw_serial.proofs.asking.ask_source.Goals as goal
use Rattle.raw_serial.proofs.asking.ask_source.Goals.{After-source_needs}

needs : (c : After-source_needs)
    → AreNeedsOf c.args.set.now c.args.p.0 (Source c.args.state.now.local) c.args.ends.now (wires_in c.source_needs.result.inputs c.args.ends.now.inputs) (wires_in c.source_needs.result.outputs c.args.ends.now.outputs)
needs c = record {
  ends = c.requires.ends.ends_are;
  takes = c.source_needs.ensures.takes c.args.ends.now;
  sends = c.source_needs.ensures.sends c.args.set.now.topo c.args.p.0 c.args.ends.now c.requires.ends.ends_are;
}

pub unmet_at-requires-clause-needs : goal.unmet_at-requires-clause-needs
unmet_at-requires-clause-needs c = record { p = c.args.p.0; l = Source c.args.state.now.local; needs = needs c }

pub returns : goal.returns
returns c =
    c.turn_unless.ensures
    ∙ turn_unmet c.args.set.now c.args.p.0 (Source c.args.state.now.local) c.args.wires.now false _
    (ap (λ ws. nat_le (length ws) c.args.state.now.local.done) (sym c.words_of-words.ensures) ∙ sym c.source_stopped.ensures ∙ c.if-source_stopped.false) refl
    (sym (c.unmet_at.ensures c.args.p.0 (Source c.args.state.now.local) (needs (goal.at.returns c).After-source_needs)))
