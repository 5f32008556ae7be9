use Rattle.std.proofs.Common.{arith, ◌≡◌, suc, ◌<◌, ◌+◌, ◌++◌, refl, ◌∙◌, subst, get_or}
use Rattle.std.proofs.lemmas.Option.{get_or_from_slice_get}
use Rattle.raw_grid.specs.Topology.{proc_count}
use Rattle.raw_serial.specs.declared.turn.Turn.TheVariants.{Fired}
use Rattle.raw_serial.specs.Running.{turn_of}
use Rattle.raw_clock.specs.Clock.{clock, clock_turns, turn_in, goes}
use Rattle.raw_clock.specs.Engine.{HasTaken}
use Rattle.raw_clock.proofs.Telling.{turn_told, begun}
use Rattle.raw_explore.proofs.Mid.{took_one, took_set, took_owed, at_next, at_first}
use Rattle.raw_explore.proofs.cycle.step_cycle.Goals as goal

pub procs-init : goal.procs-init
procs-init c =
    let m = c.args.machine.now in
    (c.procs-count.ensures.value, refl, (λ q le. refl), at_first m.set c.set-set.ensures.valid m c.args.k c.requires)

pub procs-preserved : goal.procs-preserved
procs-preserved c =
    let m = c.args.machine.now in
    let g = m.set in
    let valid = c.set-set.ensures.valid in
    let p = c.procs.p in
    let n = c.take.new.machine in
    let turn = get_or c.ask_all.new.turns p Fired in
    let below : p < proc_count g.topo = omega (arith, c.procs-test.true, c.procs.invariant.0) in
    let same : turn ≡ turn_in g (clock g c.args.k) p =
    get_or_from_slice_get c.ask_all.new.turns p (turn_of m p) Fired (c.ask_all.ensures.turns p below)
    ∙ turn_told g valid m (clock_turns g c.args.k) c.requires p (λ past. c.ask_all.ensures.tiles p past below) in
    let next : suc p ≡ p + 1 = omega arith in (
      c.procs.invariant.0,
      took_set (goes turn) c.procs.machine n p c.take.ensures ∙ c.procs.invariant.1,
      (λ q later.
          took_owed (goes turn) c.procs.machine n p q (λ e. absurd (omega (arith, e, later))) c.take.ensures
          ∙ c.procs.invariant.2 q (omega (arith, later))),
      subst (λ j. HasTaken g n (clock_turns g c.args.k ++ begun g valid (clock_turns g c.args.k) j)) next
          (took_one g valid c.procs.machine n (clock_turns g c.args.k) p
          (λ past. c.procs.invariant.2 p (omega arith) ∙ c.ask_all.ensures.tiles p past below) below c.procs.invariant.3 turn same c.take.ensures),
    )

pub returns-clause-at : goal.returns-clause-at
returns-clause-at c =
    let g = c.args.machine.now.set in
    at_next g c.set-set.ensures.valid c.procs.machine c.args.k c.procs.p c.procs.invariant.1
    (omega (arith, c.procs-test.false, c.procs.invariant.0, c.procs.auto.p-end)) c.procs.invariant.3
