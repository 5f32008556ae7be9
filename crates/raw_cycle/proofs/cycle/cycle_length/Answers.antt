use Rattle.std.proofs.Common.{◌≡◌, ℕ, suc, length, ◌+◌, ◌-◌, ◌<◌, ◌≤◌, Option, Some, sym, ap, ◌∙◌, subst, ⊎_elim, arith}
use Rattle.std.proofs.lemmas.Bool.{cases_lt}
use Rattle.raw_cycle.specs.Chains.{walk, stretch}
use Rattle.raw_cycle.specs.Cycles.{IsCycle}
use Rattle.raw_cycle.proofs.Walks.{one_more, full_stretch}
use Rattle.raw_cycle.proofs.Rounds.{on_none, never_back, cycle_from}
use Rattle.raw_cycle.proofs.cycle.cycle_length.Goals as goal

pub returns-in-None-clause-round : goal.returns-in-None-clause-round
returns-in-None-clause-round g c =
    let loop = c.loop-others in
    on_none (g.W.Waits.next c.args.waits.now) loop.others loop.at c.args.p loop.invariant.here (sym c.in-None.ensures) loop.invariant.away

pub returns-then-next-p-clause-round : goal.returns-then-next-p-clause-round
returns-then-next-p-clause-round g c =
    let next = g.W.Waits.next c.args.waits.now in
    let loop = c.loop-others in
    let back = one_more next loop.others loop.at c.args.p (Some c.args.p) loop.invariant.here (sym c.in-Some.ensures ∙ ap Some c.if-next-p.true) in
    let count : loop.others ≡ loop.others + 1 - 1 = omega arith in
    subst (λ k. IsCycle next c.args.p (stretch next k (next c.args.p))) count (cycle_from next loop.others c.args.p back loop.invariant.away)

pub returns-then-next-p-clause-whole : goal.returns-then-next-p-clause-whole
returns-then-next-p-clause-whole g c =
    let next = g.W.Waits.next c.args.waits.now in
    let loop = c.loop-others in
    let count : loop.others ≡ loop.others + 1 - 1 = omega arith in
    let whole = full_stretch next loop.others loop.at (Some c.args.p) loop.invariant.here in
    subst (λ k. loop.others + 1 ≡ length (stretch next k (next c.args.p)) + 1) count (omega (arith, whole))

-- one more place where p is not back
away_more : (next : ℕ → Option ℕ) (p k q : ℕ) → ((i : ℕ) → i < k → walk next (suc i) (Some p) ≡ Some p → ⊥) → walk next (suc k) (Some p) ≡ Some q → (q ≡ p → ⊥) → (i : ℕ) → i < k + 1 → walk next (suc i) (Some p) ≡ Some p → ⊥
away_more next p k q away e ne i h w =
    ⊎_elim
    (λ (lt : i < k). away i lt w)
    (λ (ge : k ≤ i).
    let same : i ≡ k = omega arith in
    let there : walk next (suc k) (Some p) ≡ Some p = subst (λ j. walk next (suc j) (Some p) ≡ Some p) same w in
    ne (let qp : q ≡ p = cc in qp))
    (cases_lt i k)

pub loop-others-preserved : goal.loop-others-preserved
loop-others-preserved g c =
    let next = g.W.Waits.next c.args.waits.now in
    let loop = c.loop-others in
    let there = one_more next loop.others loop.at c.args.p (Some c.in-Some.next) loop.invariant.here (sym c.in-Some.ensures) in
    record {
      there = c.count-others-end.ensures.within loop.at c.in-Some.next (sym c.in-Some.ensures);
      here = ap (λ n. walk next n (Some c.args.p)) (let e : loop.others + 1 ≡ suc loop.others = omega arith in e) ∙ there;
      away = away_more next c.args.p loop.others c.in-Some.next loop.invariant.away there c.if-next-p.false;
    }

pub returns-clause-round : goal.returns-clause-round
returns-clause-round g c =
    let ends = c.count-others-end.ensures in
    never_back (g.W.Waits.next c.args.waits.now) (g.W.Waits.count c.args.waits.now) ends.within c.args.p
    (λ i h. c.loop-others.invariant.away i (omega (arith, h, ends.value, c.loop-others-test.false)))
