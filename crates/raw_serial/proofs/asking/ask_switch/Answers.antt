use Rattle.std.proofs.Common.{◌||◌, false, sym, ap, refl, ◌∙◌}
use Rattle.std.specs.Prelude.{nat_le}
use Rattle.raw_model.specs.Program.{ProgramSet}
use Rattle.raw_model.specs.Local.{Switch}
use Rattle.raw_model.specs.Machine.{is_ended}
use Rattle.raw_processor.specs.Given.{wires_in}
use Rattle.raw_serial.specs.Needs.{AreNeedsOf}
use Rattle.raw_serial.proofs.Stepping.{turn_unmet}
use Rattle.raw_serial.proofs.Unmet.{switch_needs}
use Rattle.raw_serial.proofs.asking.ask_switch.Goals as goal
use Rattle.raw_serial.proofs.asking.ask_switch.Goals.{After-switch_needs-needs}

needs : (c : After-switch_needs-needs) → AreNeedsOf c.args.set.now c.args.p.0 (Switch c.args.switch.now.state) c.args.ends.now (wires_in c.switch_needs-needs.result.inputs c.args.ends.now.inputs) (wires_in c.switch_needs-needs.result.outputs c.args.ends.now.outputs)
needs c =
    switch_needs c.args.set.now c.args.p.0 c.args.switch.now.state c.args.ends.now c.deref.result.now _ _ c.requires.ends.ends_are (c.deref.ensures.value ∙ c.requires.code)
    (c.switch_needs-needs.ensures.takes c.args.set.now.topo c.args.p.0 c.args.ends.now c.requires.ends.ends_are) (c.switch_needs-needs.ensures.sends c.args.set.now.topo c.args.p.0 c.args.ends.now c.requires.ends.ends_are)

pub unmet_at-requires-clause-needs : goal.unmet_at-requires-clause-needs
unmet_at-requires-clause-needs c = record { p = c.args.p.0; l = Switch c.args.switch.now.state; needs = needs c }

pub returns : goal.returns
returns c =
    c.turn_unless.ensures
    ∙ turn_unmet c.args.set.now c.args.p.0 (Switch c.args.switch.now.state) c.args.wires.now false _
    (ap (λ (s : ProgramSet). is_ended c.args.switch.now.state.mark || nat_le s.limit c.args.switch.now.state.count) (sym c.set.view_is) ∙ sym c.switch_stopped.ensures ∙ c.if-switch_stopped.false) refl
    (sym (c.unmet_at.ensures c.args.p.0 (Switch c.args.switch.now.state) (needs (goal.at.returns c).After-switch_needs-needs)))
