use Rattle.std.proofs.Common.{◌≡◌, ℕ, ◌*◌, ◌≤◌, List, length, Some, arith}
use Rattle.std.specs.Prelude.{slice_get}
use Rattle.raw_grid.specs.declared.parts.PortPlace.{PortPlace}
use Rattle.raw_grid.specs.Topology.{tile_count}
use Rattle.raw_report.specs.Report.{port_lines, port_lines_of}
use Rattle.raw_state_text.proofs.Sections.{one_more, failed, all_written, next_placed, no_placed}
use Rattle.raw_report.proofs.ports.put_ports.Goals as goal

pub returns-in_err-put_port : goal.returns-in_err-put_port
unfolding port_lines
returns-in_err-put_port g c =
    let m = c.args.m.now in
    let text : ℕ × PortPlace → List ℕ = λ port. port_lines_of m.set m.state port.0 port.1 (slice_get m.state.locals port.0) in
    let there : slice_get m.set.topo.places c.loop-i.i ≡ Some c.place_of.result = grind arith in
    failed _ _ _ _ _ _ _ c.loop-i.invariant (next_placed text (2 * tile_count m.set.topo) m.set.topo.places c.loop-i.i c.place_of.result there) _
    c.from_residual.result c.from_residual.ensures.0 c.in_err-put_port.ensures

pub loop-i-preserved : goal.loop-i-preserved
loop-i-preserved g c =
    let m = c.args.m.now in
    let text : ℕ × PortPlace → List ℕ = λ port. port_lines_of m.set m.state port.0 port.1 (slice_get m.state.locals port.0) in
    let there : slice_get m.set.topo.places c.loop-i.i ≡ Some c.place_of.result = grind arith in
    one_more _ _ _ _ _ _ _ c.loop-i.invariant (next_placed text (2 * tile_count m.set.topo) m.set.topo.places c.loop-i.i c.place_of.result there) _
    c.in_ok-put_port.ensures

pub returns : goal.returns
unfolding port_lines
returns g c =
    let m = c.args.m.now in
    let text : ℕ × PortPlace → List ℕ = λ port. port_lines_of m.set m.state port.0 port.1 (slice_get m.state.locals port.0) in
    let le : length m.set.topo.places ≤ c.loop-i.i = grind arith in
    all_written _ _ _ _ _ c.loop-i.invariant (no_placed text (2 * tile_count m.set.topo) m.set.topo.places c.loop-i.i le)
