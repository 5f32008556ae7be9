use Rattle.std.proofs.Common.{◌≡◌, ◌<◌, length, sym, ap, ap₂, ◌∙◌, subst}
use Rattle.raw_grid.specs.Topology.{proc_count}
use Rattle.raw_model.specs.Program.{ProgramSet}
use Rattle.raw_model.specs.Outcomes.{outcome}
use Rattle.raw_model.specs.Serial.{serial}
use Rattle.raw_report.specs.Report.{outcome_lines}
use Rattle.raw_state_text.proofs.Sections.{same_text}
use Rattle.raw_debug.specs.Walking.{state_after}
use Rattle.raw_debug.specs.Answers.{answer}
use Rattle.raw_debug.specs.Debugging.{IsPossible, IsLed}
use Rattle.raw_debug.proofs.answers.put_answer.Goals as goal

pub put_rest-requires : goal.put_rest-requires
put_rest-requires g c =
    let trail = c.args.trail.now in
    let end = subst (IsLed trail.set trail.moment) c.in-Rest.is c.requires.led in
    subst (λ (set : ProgramSet). c.machine.result.now.state ≡ state_after set (length (serial set))) (sym c.machine.ensures.set)
    (c.machine.ensures.state ∙ ap (state_after trail.set) end)

pub returns-in-Rest-clause-writes : goal.returns-in-Rest-clause-writes
returns-in-Rest-clause-writes g c =
    same_text _ _ _ _ _
    (ap₂ (λ set s. outcome_lines set s (outcome set s)) c.machine.ensures.set c.machine.ensures.state
    ∙ ap (answer c.args.trail.now.set c.args.trail.now.moment (state_after c.args.trail.now.set c.args.trail.now.moment) c.args.p.0) (sym c.in-Rest.is))
    c.put_rest.ensures

pub put_shown-requires-clause-there : goal.put_shown-requires-clause-there
put_shown-requires-clause-there g c = subst (λ (set : ProgramSet). c.args.p.0 < proc_count set.topo) (sym c.machine-in_default.ensures.set) c.requires.there

pub put_shown-requires-clause-possible : goal.put_shown-requires-clause-possible
put_shown-requires-clause-possible g c = subst (λ set. IsPossible set c.args.p.0 c.args.command) (sym c.machine-in_default.ensures.set) c.requires.possible

pub returns-in_default-clause-writes : goal.returns-in_default-clause-writes
returns-in_default-clause-writes g c =
    let moment = c.args.trail.now.moment in
    same_text _ _ _ _ _ (ap₂ (λ set s. answer set moment s c.args.p.0 c.args.command) c.machine-in_default.ensures.set c.machine-in_default.ensures.state) (c.put_shown.ensures moment)
