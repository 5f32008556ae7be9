use Rattle.std.proofs.Common.{◌≡◌, ◌+◌, ◌-◌, ◌<◌, subst, arith}
use Rattle.std.specs.Prelude.{IfSome}
use Rattle.raw_grid.specs.Topology.{proc_count}
use Rattle.raw_debug.specs.Stops.{IsSeenIn}
use Rattle.raw_debug.proofs.Ahead.{has_gone, only_last}
use Rattle.raw_debug.proofs.walk.Walk.run_alone.Goals as goal

pub returns-then-steps-gt0-clause-gone : goal.returns-then-steps-gt0-clause-gone
returns-then-steps-gt0-clause-gone c =
    let old = c.args.self.now in
    let none = c.requires.1.at.alone c.if-not-self.false in
    let last : old.next ≡ old.next - 1 + 1 = omega (arith, none.some) in
    let there : old.next - 1 < proc_count old.machine.set.topo = omega (arith, c.requires.1.at.place.within, none.some) in
    has_gone old c.run_within-steps.new.self (old.next - 1) c.in_ok-register.register c.run_within-steps.result c.run_within-steps.ensures.run
    c.set-set.ensures.valid c.if-not-self.false last there (c.law_wired.ensures.sends_once old.machine.set) c.requires
    c.args.moment (omega (arith, c.if-steps-gt0.true)) (omega (arith, c.run_within-steps.ensures.few, c.saturating_sub-most.ensures))

pub returns-then-steps-gt0-clause-seen : goal.returns-then-steps-gt0-clause-seen
returns-then-steps-gt0-clause-seen c = λ p aim possible seen.
    let old = c.args.self.now in
    let valid = c.set-set.ensures.valid in
    let none = c.requires.1.at.alone c.if-not-self.false in
    let last : old.next ≡ old.next - 1 + 1 = omega (arith, none.some) in
    let there : old.next - 1 < proc_count old.machine.set.topo = omega (arith, c.requires.1.at.place.within, none.some) in
    only_last old c.run_within-steps.new.self (old.next - 1) c.in_ok-register.register c.run_within-steps.result c.run_within-steps.ensures.run
    valid c.if-not-self.false last there (c.law_wired.ensures.sends_once old.machine.set) c.requires
    c.set-set.ensures.fits (c.law_wired.ensures.wired old.machine.set valid) (c.law_queues.ensures.queue old.machine.set) p aim possible
    (omega (arith, c.if-steps-gt0.true))
    (λ own. subst (λ o. IfSome o (IsSeenIn aim)) c.in_ok-register.was (seen (omega (arith, own, none.some))))
