use Rattle.std.proofs.Common.{◌≡◌, ◌*◌, ◌≤◌, length, Some, arith}
use Rattle.std.specs.Prelude.{slice_get}
use Rattle.raw_grid.specs.Topology.{tile_count}
use Rattle.raw_clock_text.specs.Text.{port_text, port_lines}
use Rattle.raw_state_text.proofs.Sections.{one_more, failed, all_written, next_placed, no_placed}
use Rattle.raw_clock_text.proofs.parts.put_ports.Goals as goal

pub returns-in_err-put_port : goal.returns-in_err-put_port
unfolding port_lines
returns-in_err-put_port g c =
    let set = c.args.run.now.machine.now.set in
    let there : slice_get set.topo.places c.loop-i.i ≡ Some c.place_of.result = grind arith in
    failed _ _ _ _ _ _ _ c.loop-i.invariant
    (next_placed (port_text set c.args.run.now.counts.now.cycles) (2 * tile_count set.topo) set.topo.places c.loop-i.i c.place_of.result there) _
    c.from_residual.result c.from_residual.ensures.0 c.in_err-put_port.ensures

pub loop-i-preserved : goal.loop-i-preserved
loop-i-preserved g c =
    let set = c.args.run.now.machine.now.set in
    let there : slice_get set.topo.places c.loop-i.i ≡ Some c.place_of.result = grind arith in
    one_more _ _ _ _ _ _ _ c.loop-i.invariant
    (next_placed (port_text set c.args.run.now.counts.now.cycles) (2 * tile_count set.topo) set.topo.places c.loop-i.i c.place_of.result there) _ c.in_ok-put_port.ensures

pub returns : goal.returns
unfolding port_lines
returns g c =
    let set = c.args.run.now.machine.now.set in
    let le : length set.topo.places ≤ c.loop-i.i = grind arith in
    all_written _ _ _ _ _ c.loop-i.invariant (no_placed (port_text set c.args.run.now.counts.now.cycles) (2 * tile_count set.topo) set.topo.places c.loop-i.i le)
