use Rattle.std.proofs.Common.{◌-◌, ◌<◌, Some}
use Rattle.std.specs.List.{flat_map}
use Rattle.raw_cycle.specs.Chains.{stretch}
use Rattle.raw_grid.specs.Topology.{proc_count}
use Rattle.raw_model.specs.Waits.{waits_for}
use Rattle.raw_model.specs.StateTexts.{wait_line}
use Rattle.raw_state_text.proofs.Sections.{Begun}
use Rattle.raw_report.proofs.outcome.put_waits.Given as goal

abbrev pub invariant-loop-step : goal.invariant-loop-step
invariant-loop-step g l =
    let m = l.m in
    let next = waits_for m.set m.state in
    let waits = wait_line m.set m.state in
    record {
      there : l.p.0 < proc_count m.set.topo;
      begun : Begun (g.K.Sink.sight l.fn.out) (g.K.Sink.sight l.out) (flat_map waits (stretch next (l.count - l._step) (Some l.p.0))) (flat_map waits (stretch next l.count (Some l.fn.first.0)));
    }
