use Rattle.std.proofs.Common.{◌≡◌, ◌<◌, ◌-◌}
use Rattle.raw_cycle.specs.Chains.{chain_after, last_of}
use Rattle.raw_cycle.proofs.chain.chain_end.Given as goal

abbrev pub invariant-loop-step : goal.invariant-loop-step
invariant-loop-step g l =
    let next = g.W.Waits.next l.waits in
    let count = g.W.Waits.count l.waits in
    record {
      there : l.at < count;
      rest : last_of l.at (chain_after next (count - l._step) l.at) ≡ last_of l.p (chain_after next count l.p);
    }
