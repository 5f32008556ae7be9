use Rattle.std.proofs.Common.{◌≡◌, ◌-◌, ◌<◌, Some}
use Rattle.raw_cycle.specs.Chains.{stretch}
use Rattle.raw_grid.specs.Topology.{proc_count}
use Rattle.raw_model.specs.Waits.{waits_for}
use Rattle.raw_depth.specs.Depth.{all_for_values}
use Rattle.raw_depths.proofs.cycle.all_for_values.Given as goal

abbrev pub invariant-loop-step : goal.invariant-loop-step
invariant-loop-step l =
    let m = l.m in
    let next = waits_for m.set m.state in
    record {
      there : l.p.0 < proc_count m.set.topo;
      left : all_for_values m.set m.state (stretch next l.count (Some l.fn.first.0)) ≡ all_for_values m.set m.state (stretch next (l.count - l._step) (Some l.p.0));
    }
