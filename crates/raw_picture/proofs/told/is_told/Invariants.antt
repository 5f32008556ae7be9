use Rattle.std.proofs.Common.{◌≡◌, ◌-◌, ◌<◌, Some}
use Rattle.std.specs.Prelude.{◌==◌}
use Rattle.std.specs.List.{list_any}
use Rattle.raw_cycle.specs.Chains.{stretch}
use Rattle.raw_grid.specs.Topology.{proc_count}
use Rattle.raw_model.specs.Waits.{waits_for}
use Rattle.raw_picture.proofs.told.is_told.Given as goal

abbrev pub invariant-loop-step : goal.invariant-loop-step
invariant-loop-step l =
    let next = waits_for l.m.set l.m.state in
    record {
      there : 0 < l.fn.drawn.listed.count → l.next.0 < proc_count l.m.set.topo;
      left : list_any (λ q. q == l.p.0) (stretch next (l.fn.drawn.listed.count - l._step) (Some l.next.0))
          ≡ list_any (λ q. q == l.p.0) (stretch next l.fn.drawn.listed.count (Some l.fn.drawn.listed.first.0));
    }
