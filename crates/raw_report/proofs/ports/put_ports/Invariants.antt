use Rattle.std.proofs.Common.{◌*◌, drop, ℕ, List}
use Rattle.std.specs.Prelude.{slice_get}
use Rattle.std.specs.List.{flat_map, enumerate_from}
use Rattle.raw_grid.specs.Topology.{tile_count}
use Rattle.raw_report.specs.Report.{port_lines_of}
use Rattle.raw_grid.specs.declared.parts.PortPlace.{PortPlace}
use Rattle.raw_state_text.proofs.Sections.{Begun}
use Rattle.raw_report.proofs.ports.put_ports.Given as goal

abbrev pub invariant-loop-i : goal.invariant-loop-i
invariant-loop-i g l =
    let m = l.m in
    let text : ℕ × PortPlace → List ℕ = λ port. port_lines_of m.set m.state port.0 port.1 (slice_get m.state.locals port.0) in
    let all = enumerate_from (2 * tile_count m.set.topo) m.set.topo.places in
    Begun (g.K.Sink.sight l.fn.out) (g.K.Sink.sight l.out) (flat_map text (drop l.i all)) (flat_map text all)
