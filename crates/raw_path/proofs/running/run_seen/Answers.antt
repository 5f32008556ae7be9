use Rattle.std.proofs.Common.{◌≡◌, suc, ◌+◌, ◌<◌, ◌≤◌, refl, sym, ap, ◌∙◌, subst, arith}
use Rattle.std.proofs.lemmas.Option.{same_Some, slice_get_within}
use Rattle.raw_grid.specs.Topology.{proc_count}
use Rattle.raw_serial.specs.Running.{turn_of}
use Rattle.raw_clock.specs.Clock.{clock, clock_turns, machine_at, goes}
use Rattle.raw_clock.specs.Engine.{HasTaken}
use Rattle.raw_clock.proofs.Bounding.{few_cycles}
use Rattle.raw_clock.proofs.Telling.{goes_told, over_told, more_on, still_turns, state_told}
use Rattle.raw_whole.specs.Kept.{AreTurnsIn}
use Rattle.raw_path.specs.Known.{AreKnown, AreHops}
use Rattle.raw_whole.proofs.Stepped.{first_stepped, turns_in, next_stepped}
use Rattle.raw_path.proofs.running.run_seen.Goals as goal

pub cycles-init : goal.cycles-init
cycles-init c =
    let g = c.args.machine.now.set in (
      first_stepped g c.set-set.ensures.valid c.args.machine.now c.args.account.now c.args.passed.now refl c.requires.fresh c.requires.account c.requires.turns c.requires.passed,
      (λ k below. absurd (omega (arith, below))),
      subst (λ xs. AreKnown g xs 0 c.args.seen.now) (sym c.requires.hops) c.requires.seen,
      subst (AreHops g) (sym c.requires.hops) (λ i h here. absurd (cc here)),
      c.requires.next,
      omega arith,
    )

pub step_cycle-requires-clause-room : goal.step_cycle-requires-clause-room
step_cycle-requires-clause-room c = λ w. let few = c.cycles.invariant.0.few w in omega (arith, few, c.cycles.invariant.5)

pub look-requires-clause-state : goal.look-requires-clause-state
look-requires-clause-state c =
    let g = c.args.machine.now.set in
    let valid = c.set-set.ensures.valid in
    let k = c.cycles.cycles in
    let n = c.step_cycle.new.machine in
    let did = c.step_cycle.ensures in
    let next : k + 1 ≡ suc k = omega arith in
    let is =
    next_stepped g valid k c.cycles.machine n c.cycles.account c.step_cycle.new.account c.cycles.passed c.step_cycle.new.passed
    c.cycles.invariant.0 did.set did.cycle did.account did.turns did.tiles did.few in
    subst (λ s. n.state ≡ machine_at (clock s (suc k))) (sym is.same)
    (state_told g valid n (clock_turns g (suc k)) (subst (λ j. HasTaken g n (clock_turns g j)) next is.taken))

pub look-requires-clause-turns : goal.look-requires-clause-turns
look-requires-clause-turns c =
    let g = c.args.machine.now.set in
    let k = c.cycles.cycles in
    let n = c.step_cycle.new.machine in
    let b = c.step_cycle.new.account in
    let did = c.step_cycle.ensures in
    let turns : AreTurnsIn g k b.turns.items =
    turns_in g c.set-set.ensures.valid k c.cycles.machine n c.cycles.account b c.cycles.passed c.step_cycle.new.passed
    c.cycles.invariant.0 did.set did.cycle did.account did.turns did.tiles did.few in
    subst (λ s. AreTurnsIn s k c.deref.result.now) (sym (did.set ∙ c.cycles.invariant.0.same)) (subst (AreTurnsIn g k) (sym c.deref.ensures.value) turns)

pub look-requires-clause-hops : goal.look-requires-clause-hops
look-requires-clause-hops c =
    subst (λ s. AreHops s c.cycles.hops.items) (sym (c.step_cycle.ensures.set ∙ c.cycles.invariant.0.same)) c.cycles.invariant.3

pub cycles-preserved : goal.cycles-preserved
cycles-preserved c =
    let g = c.args.machine.now.set in
    let valid = c.set-set.ensures.valid in
    let k = c.cycles.cycles in
    let n = c.step_cycle.new.machine in
    let hops = c.look.new.hops.items in
    let did = c.step_cycle.ensures in
    let same = did.set ∙ c.cycles.invariant.0.same in
    let next : suc k ≡ k + 1 = omega arith in
    let more = more_on g k c.cycles.invariant.1 (goes_told g valid c.cycles.machine k c.cycles.invariant.0.taken did.tiles c.cycles-test.ensures.goes) in
    let procs : proc_count g.topo ≤ 256 = omega (arith, c.procs-procs.ensures.few, c.procs-procs.ensures.value) in
    let known : AreKnown g hops (k + 1) c.look.new.next =
    subst (λ j. AreKnown g hops j c.look.new.next) next (subst (λ s. AreKnown s hops (suc k) c.look.new.next) same c.in_ok-look.ensures.known) in (
      next_stepped g valid k c.cycles.machine n c.cycles.account c.step_cycle.new.account c.cycles.passed c.step_cycle.new.passed
          c.cycles.invariant.0 did.set did.cycle did.account did.turns did.tiles did.few,
      more,
      subst (AreKnown g hops (k + 1)) (sym c.copy_from_slice.ensures.after) known,
      subst (λ s. AreHops s hops) same c.in_ok-look.ensures.hops,
      known.many,
      few_cycles g valid procs (k + 1) more,
    )

pub returns-clause-cycles : goal.returns-clause-cycles
returns-clause-cycles c =
    let g = c.args.machine.now.set in
    record {
      over = over_told g c.set-set.ensures.valid c.cycles.machine c.cycles.cycles c.cycles.invariant.0.taken c.step_cycle.ensures.tiles c.cycles-test.ensures.goes;
      before = c.cycles.invariant.1;
    }

pub returns-clause-state : goal.returns-clause-state
returns-clause-state c =
    let g = c.args.machine.now.set in
    let valid = c.set-set.ensures.valid in
    let k = c.cycles.cycles in
    let n = c.step_cycle.new.machine in
    let did = c.step_cycle.ensures in
    let next : k + 1 ≡ suc k = omega arith in
    let over = over_told g valid c.cycles.machine k c.cycles.invariant.0.taken did.tiles c.cycles-test.ensures.goes in
    let is =
    next_stepped g valid k c.cycles.machine n c.cycles.account c.step_cycle.new.account c.cycles.passed c.step_cycle.new.passed
    c.cycles.invariant.0 did.set did.cycle did.account did.turns did.tiles did.few in
    state_told g valid n (clock_turns g k)
    (subst (λ turns. HasTaken g n turns) (still_turns g valid k over) (subst (λ j. HasTaken g n (clock_turns g j)) next is.taken))

pub returns-clause-over : goal.returns-clause-over
returns-clause-over c =
    λ p turn here.
    let m = c.cycles.machine in
    let did = c.step_cycle.ensures in
    let there = slice_get_within c.step_cycle.new.account.turns.items p turn here in
    let each = did.account.each in
    let below : p < proc_count m.set.topo = omega (arith, there, each) in
    ap goes (same_Some turn (turn_of m p) (sym here ∙ did.turns p below)) ∙ c.cycles-test.ensures.goes p below
