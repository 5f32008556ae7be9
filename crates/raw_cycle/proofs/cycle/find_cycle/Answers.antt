use Rattle.std.proofs.Common.{◌≡◌, ◌<◌, ◌≤◌, sym, subst, ⊎_elim, arith}
use Rattle.std.proofs.lemmas.Bool.{cases_lt}
use Rattle.raw_cycle.specs.Cycles.{OnNone, others_of}
use Rattle.raw_cycle.proofs.Rounds.{none_at_all}
use Rattle.raw_cycle.proofs.Reported.{the_cycle_of, cycle_found, cycle_absent}
use Rattle.raw_cycle.proofs.cycle.find_cycle.Goals as goal

pub returns-in-Some-clause-law : goal.returns-in-Some-clause-law
returns-in-Some-clause-law g c =
    let next = g.W.Waits.next c.args.waits.now in
    the_cycle_of next c.loop-p.p (others_of next c.loop-p.p c.in-Some.length) c.in-Some.ensures.round c.loop-p.invariant

pub returns-in-Some-clause-exact : goal.returns-in-Some-clause-exact
returns-in-Some-clause-exact g c =
    let next = g.W.Waits.next c.args.waits.now in
    let others = others_of next c.loop-p.p c.in-Some.length in
    sym
    (cycle_found next (g.W.Waits.count c.args.waits.now) c.count-p-end.ensures.within c.loop-p.p others
    (the_cycle_of next c.loop-p.p others c.in-Some.ensures.round c.loop-p.invariant))

pub loop-p-preserved : goal.loop-p-preserved
loop-p-preserved g c q h =
    ⊎_elim
    (λ (lt : q < c.loop-p.p). c.loop-p.invariant q lt)
    (λ (ge : c.loop-p.p ≤ q).
    let same : c.loop-p.p ≡ q = omega arith in
    subst (OnNone (g.W.Waits.next c.args.waits.now)) same c.in_default.ensures.round)
    (cases_lt q c.loop-p.p)

pub returns-clause-law : goal.returns-clause-law
returns-clause-law g c =
    let ends = c.count-p-end.ensures in
    none_at_all (g.W.Waits.next c.args.waits.now) (g.W.Waits.count c.args.waits.now) ends.within
    (λ q h. c.loop-p.invariant q (omega (arith, h, ends.value, c.loop-p-test.false)))

pub returns-clause-exact : goal.returns-clause-exact
returns-clause-exact g c =
    let next = g.W.Waits.next c.args.waits.now in
    let count = g.W.Waits.count c.args.waits.now in
    let ends = c.count-p-end.ensures in
    sym
    (cycle_absent next count ends.within
    (none_at_all next count ends.within (λ q h. c.loop-p.invariant q (omega (arith, h, ends.value, c.loop-p-test.false)))))
