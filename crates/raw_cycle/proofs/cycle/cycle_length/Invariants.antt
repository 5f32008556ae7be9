use Rattle.std.proofs.Common.{◌≡◌, ℕ, ◌<◌, suc, Some}
use Rattle.raw_cycle.specs.Chains.{walk}
use Rattle.raw_cycle.proofs.cycle.cycle_length.Given as goal

abbrev pub invariant-loop-others : goal.invariant-loop-others
invariant-loop-others g l =
    let next = g.W.Waits.next l.waits in
    record {
      there : l.at < g.W.Waits.count l.waits;
      here : walk next l.others (Some l.p) ≡ Some l.at;
      away : (i : ℕ) → i < l.others → walk next (suc i) (Some l.p) ≡ Some l.p → ⊥;
    }
