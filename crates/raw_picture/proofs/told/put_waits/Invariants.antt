use Rattle.std.proofs.Common.{◌-◌, ◌<◌, Some, true}
use Rattle.raw_cycle.specs.Chains.{stretch}
use Rattle.raw_grid.specs.Topology.{proc_count}
use Rattle.raw_model.specs.Waits.{waits_for}
use Rattle.raw_picture.specs.Told.{waits_told}
use Rattle.raw_state_text.proofs.Sections.{Begun}
use Rattle.raw_picture.proofs.told.put_waits.Given as goal

abbrev pub invariant-loop-step : goal.invariant-loop-step
invariant-loop-step g l =
    let m = l.m in
    let next = waits_for m.set m.state in
    record {
      there : 0 < l.fn.drawn.listed.count → l.p.0 < proc_count m.set.topo;
      begun : Begun (g.K.Sink.sight l.fn.out) (g.K.Sink.sight l.out)
          (waits_told l.telling m.set m.state l.first (stretch next (l.fn.drawn.listed.count - l._step) (Some l.p.0)))
          (waits_told l.telling m.set m.state true (stretch next l.fn.drawn.listed.count (Some l.fn.drawn.listed.first.0)));
    }
