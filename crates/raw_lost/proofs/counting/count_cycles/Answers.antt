use Rattle.std.proofs.Common.{◌+◌, ◌≤◌, refl, sym, subst, arith}
use Rattle.raw_grid.specs.Topology.{proc_count}
use Rattle.raw_clock.proofs.Bounding.{few_cycles}
use Rattle.raw_whole.specs.Kept.{AreTurnsIn}
use Rattle.raw_whole.proofs.Stepped.{first_stepped, turns_in, next_stepped}
use Rattle.raw_lost.specs.Known.{AreLost}
use Rattle.raw_lost.proofs.counting.count_cycles.Goals as goal

pub cycles-init : goal.cycles-init
cycles-init c = (
  omega arith,
  first_stepped c.args.machine.now.set c.set-set.ensures.valid c.args.machine.now c.args.account.now c.args.passed.now refl c.requires.fresh c.requires.account c.requires.turns
      c.requires.passed,
  c.requires.lost,
  c.requires.kinds,
)

pub step_cycle-requires-clause-few : goal.step_cycle-requires-clause-few
step_cycle-requires-clause-few c =
    let g = c.args.machine.now.set in
    let procs : proc_count g.topo ≤ 256 = omega (arith, c.procs-procs.ensures.few, c.procs-procs.ensures.value) in
    omega (arith, few_cycles g c.set-set.ensures.valid procs c.args.cycles c.requires.cycles.before, c.cycles-test.true, c.cycles.invariant.0)

pub step_cycle-requires-clause-room : goal.step_cycle-requires-clause-room
step_cycle-requires-clause-room c =
    let g = c.args.machine.now.set in
    let procs : proc_count g.topo ≤ 256 = omega (arith, c.procs-procs.ensures.few, c.procs-procs.ensures.value) in
    let most = few_cycles g c.set-set.ensures.valid procs c.args.cycles c.requires.cycles.before in
    λ w. let few = c.cycles.invariant.1.few w in omega (arith, most, few, c.cycles-test.true, c.cycles.invariant.0)

pub note_cycle-requires-clause-few : goal.note_cycle-requires-clause-few
note_cycle-requires-clause-few c =
    let g = c.args.machine.now.set in
    let procs : proc_count g.topo ≤ 256 = omega (arith, c.procs-procs.ensures.few, c.procs-procs.ensures.value) in
    omega (arith, few_cycles g c.set-set.ensures.valid procs c.args.cycles c.requires.cycles.before, c.cycles-test.true, c.cycles.invariant.0)

pub note_cycle-requires-clause-turns : goal.note_cycle-requires-clause-turns
note_cycle-requires-clause-turns c =
    let g = c.args.machine.now.set in
    let did = c.step_cycle.ensures in
    let turns : AreTurnsIn g c.cycles.k c.step_cycle.new.account.turns.items =
    turns_in g c.set-set.ensures.valid c.cycles.k c.cycles.machine c.step_cycle.new.machine c.cycles.account c.step_cycle.new.account c.cycles.passed c.step_cycle.new.passed
    c.cycles.invariant.1 did.set did.cycle did.account did.turns did.tiles did.few in
    subst (λ ts. AreTurnsIn c.set-set.result.now c.cycles.k ts) (sym c.deref.ensures.value)
    (subst (λ s. AreTurnsIn s c.cycles.k c.step_cycle.new.account.turns.items) (sym c.set-set.ensures.value) turns)

pub cycles-preserved : goal.cycles-preserved
cycles-preserved c =
    let g = c.args.machine.now.set in
    let did = c.step_cycle.ensures in (
      omega (arith, c.cycles-test.true),
      next_stepped g c.set-set.ensures.valid c.cycles.k c.cycles.machine c.step_cycle.new.machine c.cycles.account c.step_cycle.new.account c.cycles.passed c.step_cycle.new.passed
          c.cycles.invariant.1 did.set did.cycle did.account did.turns did.tiles did.few,
      subst (λ s. AreLost s (c.cycles.k + 1) c.note_cycle.new.lost) c.set-set.ensures.value c.note_cycle.ensures,
      omega (arith, c.note_cycle.auto.kinds, c.cycles.invariant.3),
    )
