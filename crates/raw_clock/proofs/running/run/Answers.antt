use Rattle.std.proofs.Common.{arith, length, ap, sym, ◌∙◌, subst}
use Rattle.std.specs.Vec.{with_items}
use Rattle.std.proofs.lemmas.List.{with_items_is}
use Rattle.raw_model.specs.Program.{IsSet}
use Rattle.raw_clock.specs.declared.running.Cycles.{Cycles}
use Rattle.raw_clock.specs.Clock.{clock_turns, program_steps}
use Rattle.raw_clock.specs.Values.{HaveSent}
use Rattle.raw_clock.proofs.Counted.{counted_by, counted_rests, counted_quiet, counted_none_sooner}
use Rattle.raw_clock.proofs.running.run.Goals as goal

pub returns-clause-counted : goal.returns-clause-counted
returns-clause-counted c =
    let g = c.args.machine.now.set in
    let did = c.run_counted-cycles.ensures in
    let value = c.deref_mut.ensures.value in
    let many = ap length value in
    let items = with_items_is c.in_ok-passed.passed c.run_counted-cycles.new.passed (omega (arith, c.run_counted-cycles.auto.passed, many, c.in_ok-passed.passed.ok.0)) in
    let ran : Cycles =
    record {
      cycles = c.run_counted-cycles.result;
      steps = c.program_steps-steps.result;
      tally = c.run_counted-cycles.new.account.tally;
      passed = with_items c.in_ok-passed.passed c.run_counted-cycles.new.passed;
    } in
    counted_by g c.run_counted-cycles.new.machine ran did.set did.cycles
    (c.program_steps-steps.ensures ∙ ap (λ h. program_steps h c.run_counted-cycles.result) c.set-set.ensures.value) did.tally
    (subst (λ xs. HaveSent g (clock_turns g c.run_counted-cycles.result) xs) (sym items) did.passed) did.state

pub returns-clause-quiet : goal.returns-clause-quiet
returns-clause-quiet c =
    let n = c.run_counted-cycles.new.machine in
    counted_quiet n _ (subst IsSet (sym c.run_counted-cycles.ensures.set) c.set-set.ensures.valid) (returns-clause-counted c)

pub returns-clause-steps : goal.returns-clause-steps
returns-clause-steps c =
    let n = c.run_counted-cycles.new.machine in
    counted_rests n _ (subst IsSet (sym c.run_counted-cycles.ensures.set) c.set-set.ensures.valid) (returns-clause-counted c)

pub returns-clause-none_sooner : goal.returns-clause-none_sooner
returns-clause-none_sooner c =
    let n = c.run_counted-cycles.new.machine in
    counted_none_sooner n _ (subst IsSet (sym c.run_counted-cycles.ensures.set) c.set-set.ensures.valid) (returns-clause-counted c)
