use Rattle.std.proofs.Common.{◌≡◌, [], sym, ap, subst, ◌∙◌}
use Rattle.raw_model.specs.Program.{ProgramSet, IsSet}
use Rattle.raw_model.specs.Rest.{IsQuiet, IsRun, end}
use Rattle.raw_model.specs.Waits.{waits_for}
use Rattle.raw_model.specs.Outcomes.{outcome}
use Rattle.raw_outcome.specs.Told.{told}
use Rattle.raw_serial.specs.Running.{Running}
use Rattle.raw_clock.specs.Clock.{HasCycles, clock, clock_steps, machine_at}
use Rattle.raw_term.specs.Verdicts.{IsVerdict}
use Rattle.raw_prove.proofs.Resting.{each_tells}
use Rattle.raw_choice.proofs.choosing.fewer_cycles.Goals as goal

pub prove-requires : goal.prove-requires
prove-requires c =
    let set : ProgramSet = c.args.candidate.now in
    let valid : IsSet set = subst IsSet c.candidate.view_is c.candidate.invariant in
    let m : Running = c.run.new.machine in
    let n = c.in_ok-ran.ran.cycles in
    let ran = c.in_ok-ran.ensures in
    let same : m.set ≡ set = ran.set ∙ c.in_ok-machine.ensures.set in
    let own : IsRun set (clock_steps set n) = subst (λ s. IsRun s (clock_steps s n)) same ran.steps in
    let there : end set (clock_steps set n) ≡ m.state =
    (c.law_clock.ensures.at set n valid).there ∙ sym (ran.counted.state ∙ ap (λ s. machine_at (clock s n)) same) in
    let told_so : told (waits_for set m.state) c.outcome.result ≡ outcome set m.state =
    subst (λ s. told (waits_for s m.state) c.outcome.result ≡ outcome s m.state) same c.outcome.ensures in
    record {
      outcome = λ steps run.
          each_tells set valid m.state (subst (λ s. IsQuiet s m.state) same ran.quiet) c.outcome.result told_so steps run
          ∣ (clock_steps set n, record { lawful = own.lawful; there = there }) ∣₁;
    }

pub returns-in-Proved-clause-meets : goal.returns-in-Proved-clause-meets
returns-in-Proved-clause-meets c = c.in_ok-prove.ensures.meets c.in-Proved.field-0 c.in-Proved.is

pub returns-in-Proved-clause-cycles : goal.returns-in-Proved-clause-cycles
returns-in-Proved-clause-cycles c =
    subst (λ s. HasCycles s c.in_ok-ran.ran.cycles) (c.in_ok-ran.ensures.set ∙ c.in_ok-machine.ensures.set) c.in_ok-ran.ensures.counted.cycles

pub returns-in-Proved-clause-keeps : goal.returns-in-Proved-clause-keeps
returns-in-Proved-clause-keeps c =
    λ words are.
    let set : ProgramSet = c.args.candidate.now in
    let valid : IsSet set = subst IsSet c.candidate.view_is c.candidate.invariant in
    let says = subst (λ verdict. IsVerdict set c.args.flow.now [] verdict) c.in-Proved.is c.in_ok-prove.ensures.verdict in
    c.law_words.ensures.proved set c.args.flow.now [] c.in-Proved.field-0 c.in_ok-ran.ran.cycles words valid says are
    (returns-in-Proved-clause-cycles c)
