use Rattle.std.proofs.Common.{◌+◌, ◌-◌, sym, ◌∙◌, arith, rules}
use Rattle.raw_cycle.proofs.Ends.{chain_along, chain_stops, last_more}
use Rattle.raw_cycle.proofs.chain.chain_end.Goals as goal

pub loop-step-preserved : goal.loop-step-preserved
loop-step-preserved g c =
    let next = g.W.Waits.next c.args.waits.now in
    let count = g.W.Waits.count c.args.waits.now in
    let lt = c.loop-step-test.true in
    record {
      there = c.count-step-end.ensures.within c.loop-step.at c.in-Some.next (sym c.in-Some.ensures);
      rest =
          last_more next (count - c.loop-step._step) (count - (c.loop-step._step + 1)) c.loop-step.at c.in-Some.next (omega (arith, lt, c.count-step-end.ensures.value)) (sym c.in-Some.ensures)
          ∙ c.loop-step.invariant.rest;
    }

pub returns-in-None-clause-along : goal.returns-in-None-clause-along
returns-in-None-clause-along g c none =
    chain_along (g.W.Waits.next c.args.waits.now) (g.W.Waits.count c.args.waits.now) c.count-step-end.ensures.within none c.args.p c.requires

pub returns-clause-stopped : goal.returns-clause-stopped
returns-clause-stopped g c none =
    chain_stops (g.W.Waits.next c.args.waits.now) (g.W.Waits.count c.args.waits.now) c.count-step-end.ensures.within none c.args.p c.loop-step.at c.requires (search rules)

pub returns-clause-along : goal.returns-clause-along
returns-clause-along g c none =
    chain_along (g.W.Waits.next c.args.waits.now) (g.W.Waits.count c.args.waits.now) c.count-step-end.ensures.within none c.args.p c.requires
