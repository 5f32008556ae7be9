use Rattle.std.proofs.Common.{◌*◌, drop}
use Rattle.std.specs.List.{flat_map, enumerate_from}
use Rattle.raw_grid.specs.Topology.{tile_count}
use Rattle.raw_state_text.proofs.Sections.{Begun}
use Rattle.raw_clock_text.specs.Text.{port_text}
use Rattle.raw_clock_text.proofs.parts.put_ports.Given as goal

abbrev pub invariant-loop-i : goal.invariant-loop-i
invariant-loop-i g l =
    let set = l.fn.run.machine.now.set in
    let all = enumerate_from (2 * tile_count set.topo) set.topo.places in
    Begun (g.K.Sink.sight l.fn.out) (g.K.Sink.sight l.out) (flat_map (port_text set l.fn.run.counts.now.cycles) (drop l.i all)) (flat_map (port_text set l.fn.run.counts.now.cycles) all)
