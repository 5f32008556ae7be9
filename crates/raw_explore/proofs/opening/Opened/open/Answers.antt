use Rattle.std.proofs.Common.{arith, ◌≡◌, ◌≤◌, ap, sym, ◌∙◌, subst}
use Rattle.std.specs.Prelude.{IfSome}
use Rattle.raw_grid.specs.Topology.{proc_count}
use Rattle.raw_model.specs.Program.{ProgramSet, IsSet}
use Rattle.raw_model.specs.Waits.{waits_for}
use Rattle.raw_model.specs.Outcomes.{outcome}
use Rattle.raw_serial.specs.Fresh.{IsFresh}
use Rattle.raw_outcome.specs.Told.{told}
use Rattle.raw_clock.specs.Clock.{clock, clock_turns, machine_at, HasCycles, program_steps}
use Rattle.raw_clock.specs.Tally.{IsTally}
use Rattle.raw_clock.specs.Values.{HaveSent}
use Rattle.raw_clock.proofs.Bounding.{few_cycles}
use Rattle.raw_trace.specs.Whole.{has_whole}
use Rattle.raw_whole.specs.Kept.{IsWhole}
use Rattle.raw_explore.proofs.opening.Opened.open.Goals as goal

pub gather_told-requires : goal.gather_told-requires
gather_told-requires c =
    let ran = c.in_ok-ran.ran in
    let set = c.args.set.now in
    let counted = c.in_ok-ran.ensures.counted in
    let same : c.run.new.machine.set ≡ set = c.in_ok-ran.ensures.set ∙ c.in_ok-machine.ensures.set in
    let fresh : c.in_ok-fresh.fresh.set ≡ set = c.in_ok-fresh.ensures.set in
    let valid : IsSet set = subst IsSet c.in_ok-machine.ensures.set c.set-set.ensures.valid in
    let cycles : HasCycles set ran.cycles = subst (λ s. HasCycles s ran.cycles) same counted.cycles in
    let many = ap (λ (s : ProgramSet). proc_count s.topo) c.in_ok-machine.ensures.set in
    let procs : proc_count set.topo ≤ 256 = omega (arith, many, c.procs-procs.ensures.value, c.procs-procs.ensures.few) in
    record {
      fresh = subst (λ s. IsFresh s c.in_ok-fresh.fresh) (sym fresh) c.in_ok-fresh.ensures;
      cycles = subst (λ s. HasCycles s ran.cycles) (sym fresh) cycles;
      few = omega (arith, few_cycles set valid procs ran.cycles cycles.before);
    }

pub returns-clause-opened : goal.returns-clause-opened
returns-clause-opened c =
    let ran = c.in_ok-ran.ran in
    let set = c.args.set.now in
    let counted = c.in_ok-ran.ensures.counted in
    let opened : c.in_ok-machine.machine.set ≡ set = c.in_ok-machine.ensures.set in
    let same : c.run.new.machine.set ≡ set = c.in_ok-ran.ensures.set ∙ opened in
    let fresh : c.in_ok-fresh.fresh.set ≡ set = c.in_ok-fresh.ensures.set in
    let valid : IsSet set = subst IsSet opened c.set-set.ensures.valid in
    let cycles : HasCycles set ran.cycles = subst (λ s. HasCycles s ran.cycles) same counted.cycles in
    let many = ap (λ (s : ProgramSet). proc_count s.topo) opened in
    let procs : proc_count set.topo ≤ 256 = omega (arith, many, c.procs-procs.ensures.value, c.procs-procs.ensures.few) in
    record {
      valid = valid;
      machine_set = same;
      machine_rests = counted.state ∙ ap (λ s. machine_at (clock s ran.cycles)) same;
      other_fresh = subst (λ s. IsFresh s c.restart.new.self) (c.in_ok-whole.ensures.set ∙ fresh) c.restart.ensures;
      cycles = cycles;
      few = omega (arith, few_cycles set valid procs ran.cycles cycles.before);
      steps = counted.steps ∙ ap (λ s. program_steps s ran.cycles) same;
      tally = subst (λ s. IsTally s ran.cycles ran.tally) same counted.tally;
      passed = subst (λ s. HaveSent s (clock_turns s ran.cycles) ran.passed.items) same counted.passed;
      rest = subst (λ s. told (waits_for s (machine_at (clock s ran.cycles))) c.outcome-outcome.result ≡ outcome s (machine_at (clock s ran.cycles))) same
          (subst (λ st. told (waits_for c.run.new.machine.set st) c.outcome-outcome.result ≡ outcome c.run.new.machine.set st) counted.state c.outcome-outcome.ensures);
      kept = subst (λ s. IfSome c.in_ok-whole.whole (IsWhole s ran.cycles)) fresh c.in_ok-whole.ensures.whole;
    }

pub returns-clause-whole : goal.returns-clause-whole
returns-clause-whole c = c.in_ok-whole.ensures.told ∙ ap (λ s. has_whole c.args.whole s c.in_ok-ran.ran.cycles) c.in_ok-fresh.ensures.set
