use Rattle.std.proofs.Common.{arith, ◌≡◌, suc, ◌+◌, ◌<◌, ◌≤◌, length, refl, sym, ap, ◌∙◌, subst}
use Rattle.std.proofs.lemmas.Option.{same_Some}
use Rattle.raw_grid.specs.Topology.{proc_count}
use Rattle.raw_grid.specs.Wires.{wires_of}
use Rattle.raw_model.specs.Program.{ProgramSet}
use Rattle.raw_serial.specs.declared.turn.Turn.TheVariants.{Stopped}
use Rattle.raw_serial.specs.Running.{turn_of}
use Rattle.raw_clock.specs.Clock.{clock_turns}
use Rattle.raw_clock.specs.Values.{HaveSent}
use Rattle.raw_clock.specs.Engine.{HasTaken}
use Rattle.raw_clock.specs.Account.{IsAccount}
use Rattle.raw_clock.proofs.Bounding.{few_cycles}
use Rattle.raw_clock.proofs.Telling.{turns_told, fresh_told, goes_told, over_told, cycle_told, still_turns, more_on, none_sent, zeros, state_told}
use Rattle.raw_clock.proofs.Accounting.{next_account, none_stopped}
use Rattle.raw_clock.proofs.Stopping.{stays_stopped}
use Rattle.raw_clock.proofs.running.run_counted.Goals as goal

pub cycles-init : goal.cycles-init
cycles-init c =
    let g = c.args.machine.now.set in (
      refl,
      fresh_told g c.set-set.ensures.valid c.args.machine.now c.requires.fresh,
      (λ k below. absurd (omega (arith, below))),
      c.requires.account,
      none_sent g c.set-set.ensures.valid c.args.passed.now c.requires.passed,
      zeros c.args.passed.now _ c.requires.passed,
      (λ p below is. absurd (none_stopped c.args.account.now.turns.items (proc_count g.topo) p c.requires.turns below is)),
    )

pub step_cycle-requires-clause-few : goal.step_cycle-requires-clause-few
step_cycle-requires-clause-few c =
    let g = c.args.machine.now.set in
    let procs : proc_count g.topo ≤ 256 = omega (arith, c.procs-procs.ensures.few, c.procs-procs.ensures.value) in
    omega (arith, few_cycles g c.set-set.ensures.valid procs c.cycles.cycles c.cycles.invariant.2)

pub step_cycle-requires-clause-account : goal.step_cycle-requires-clause-account
step_cycle-requires-clause-account c = subst (λ h. IsAccount h c.cycles.cycles c.cycles.account) (sym c.cycles.invariant.0) c.cycles.invariant.3

pub step_cycle-requires-clause-stopped : goal.step_cycle-requires-clause-stopped
step_cycle-requires-clause-stopped c =
    λ p below. c.cycles.invariant.6 p (subst (λ (h : ProgramSet). p < proc_count h.topo) c.cycles.invariant.0 below)

pub step_cycle-requires-clause-each : goal.step_cycle-requires-clause-each
step_cycle-requires-clause-each c =
    c.cycles.invariant.4.each ∙ ap (λ (set : ProgramSet). length (wires_of set.topo)) (sym c.cycles.invariant.0)

pub step_cycle-requires-clause-room : goal.step_cycle-requires-clause-room
step_cycle-requires-clause-room c =
    let g = c.args.machine.now.set in
    let valid = c.set-set.ensures.valid in
    let procs : proc_count g.topo ≤ 256 = omega (arith, c.procs-procs.ensures.few, c.procs-procs.ensures.value) in
    λ w. omega (arith, few_cycles g valid procs c.cycles.cycles c.cycles.invariant.2, c.cycles.invariant.5 w)

pub overflow_add-cycles : goal.overflow_add-cycles
overflow_add-cycles c =
    let g = c.args.machine.now.set in
    let valid = c.set-set.ensures.valid in
    let procs : proc_count g.topo ≤ 256 = omega (arith, c.procs-procs.ensures.few, c.procs-procs.ensures.value) in
    omega (arith, few_cycles g valid procs c.cycles.cycles c.cycles.invariant.2)

pub cycles-smaller : goal.cycles-smaller
cycles-smaller c =
    let g = c.args.machine.now.set in
    let valid = c.set-set.ensures.valid in
    let procs : proc_count g.topo ≤ 256 = omega (arith, c.procs-procs.ensures.few, c.procs-procs.ensures.value) in
    omega (arith, few_cycles g valid procs c.cycles.cycles c.cycles.invariant.2)

pub cycles-preserved : goal.cycles-preserved
cycles-preserved c =
    let g = c.args.machine.now.set in
    let valid = c.set-set.ensures.valid in
    let m = c.cycles.machine in
    let n = c.step_cycle.new.machine in
    let a = c.step_cycle.new.account in
    let after = c.step_cycle.new.passed in
    let k = c.cycles.cycles in
    let did = c.step_cycle.ensures in
    let now = goes_told g valid m k c.cycles.invariant.1 did.tiles c.cycles-test.ensures.goes in
    let next : suc k ≡ k + 1 = omega arith in
    let both = cycle_told g m n k c.cycles.passed after c.cycles.invariant.0 c.cycles.invariant.1 c.cycles.invariant.4 did.cycle in (
      did.set ∙ c.cycles.invariant.0,
      subst (λ j. HasTaken g n (clock_turns g j)) next both.0,
      more_on g k c.cycles.invariant.2 now,
      next_account g valid k a (subst (λ h. IsAccount h k a) c.cycles.invariant.0 did.account)
          (turns_told g valid m k c.cycles.invariant.1 did.tiles a.turns.items did.turns),
      subst (λ j. HaveSent g (clock_turns g j) after) next both.1,
      λ w. omega (arith, did.few w, c.cycles.invariant.5 w),
      λ p below is.
          stays_stopped g valid m n k p below c.cycles.invariant.1 both.0
          (same_Some (turn_of m p) Stopped (sym (did.turns p (subst (λ (h : ProgramSet). p < proc_count h.topo) (sym c.cycles.invariant.0) below)) ∙ is)),
    )

pub close-requires-clause-stands : goal.close-requires-clause-stands
close-requires-clause-stands c =
    let g = c.args.machine.now.set in
    let procs : proc_count g.topo ≤ 256 = omega (arith, c.procs-procs.ensures.few, c.procs-procs.ensures.value) in
    record {
      few = omega (arith, few_cycles g c.set-set.ensures.valid procs c.cycles.cycles c.cycles.invariant.2);
      account = subst (λ h. IsAccount h c.cycles.cycles c.step_cycle.new.account) (c.cycles.invariant.0 ∙ sym c.set-set.ensures.value) c.step_cycle.ensures.account;
    }

pub returns-clause-few : goal.returns-clause-few
returns-clause-few c =
    let g = c.args.machine.now.set in
    let procs : proc_count g.topo ≤ 256 = omega (arith, c.procs-procs.ensures.few, c.procs-procs.ensures.value) in
    omega (arith, few_cycles g c.set-set.ensures.valid procs c.cycles.cycles c.cycles.invariant.2)

pub returns-clause-cycles : goal.returns-clause-cycles
returns-clause-cycles c =
    let g = c.args.machine.now.set in
    record {
      over = over_told g c.set-set.ensures.valid c.cycles.machine c.cycles.cycles c.cycles.invariant.1 c.step_cycle.ensures.tiles c.cycles-test.ensures.goes;
      before = c.cycles.invariant.2;
    }

pub returns-clause-passed : goal.returns-clause-passed
returns-clause-passed c =
    let g = c.args.machine.now.set in
    let k = c.cycles.cycles in
    let over = over_told g c.set-set.ensures.valid c.cycles.machine k c.cycles.invariant.1 c.step_cycle.ensures.tiles c.cycles-test.ensures.goes in
    let both =
    cycle_told g c.cycles.machine c.step_cycle.new.machine k c.cycles.passed c.step_cycle.new.passed c.cycles.invariant.0 c.cycles.invariant.1 c.cycles.invariant.4
    c.step_cycle.ensures.cycle in
    subst (λ turns. HaveSent g turns c.step_cycle.new.passed) (still_turns g c.set-set.ensures.valid k over) both.1

pub returns-clause-state : goal.returns-clause-state
returns-clause-state c =
    let g = c.args.machine.now.set in
    let k = c.cycles.cycles in
    let n = c.step_cycle.new.machine in
    let over = over_told g c.set-set.ensures.valid c.cycles.machine k c.cycles.invariant.1 c.step_cycle.ensures.tiles c.cycles-test.ensures.goes in
    let both =
    cycle_told g c.cycles.machine n k c.cycles.passed c.step_cycle.new.passed c.cycles.invariant.0 c.cycles.invariant.1 c.cycles.invariant.4
    c.step_cycle.ensures.cycle in
    state_told g c.set-set.ensures.valid n (clock_turns g k)
    (subst (λ turns. HasTaken g n turns) (still_turns g c.set-set.ensures.valid k over) both.0)
