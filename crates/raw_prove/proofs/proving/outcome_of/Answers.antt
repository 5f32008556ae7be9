use Rattle.std.proofs.Common.{◌≡◌, ap, subst, ◌∙◌}
use Rattle.raw_model.specs.Program.{ProgramSet, IsSet}
use Rattle.raw_model.specs.Start.{MachineState}
use Rattle.raw_model.specs.Rest.{IsQuiet}
use Rattle.raw_model.specs.Waits.{waits_for}
use Rattle.raw_model.specs.Outcomes.{outcome}
use Rattle.raw_outcome.specs.Told.{told}
use Rattle.raw_serial.specs.Leading.{Leads}
use Rattle.raw_serial.specs.Running.{Running}
use Rattle.raw_prove.proofs.Resting.{each_tells}
use Rattle.raw_prove.proofs.proving.outcome_of.Goals as goal

pub returns : goal.returns
returns c = λ steps run.
    let m : Running = c.run.new.self in
    let set : ProgramSet = c.args.set.now in
    let fresh : c.in_ok-machine.machine.set ≡ set = c.in_ok-machine.ensures.set in
    let same : m.set ≡ set = c.run.ensures.set ∙ fresh in
    let valid : IsSet set = subst IsSet (ap (λ (r : Running). r.set) c.machine.view_is ∙ same) c.machine.invariant.valid in
    each_tells set valid m.state (subst (λ (g : ProgramSet). IsQuiet g m.state) same c.run.ensures.quiet) c.outcome.result
    (subst (λ (g : ProgramSet). told (waits_for g m.state) c.outcome.result ≡ outcome g m.state) same c.outcome.ensures) steps run
    (subst (λ (s : MachineState). Leads set s m.state) c.in_ok-machine.ensures.state
    (subst (λ (g : ProgramSet). Leads g c.in_ok-machine.machine.state m.state) fresh c.run.ensures.led))
