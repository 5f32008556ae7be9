use Rattle.std.proofs.Common.{◌<◌, ◌≤◌, ◌++◌, length, take, ap, ◌∙◌, sym, subst, arith}
use Rattle.std.specs.Prelude.{Contains}
use Rattle.raw_grid.specs.declared.parts.PortPlace.{PortPlace}
use Rattle.raw_grid.specs.Topology.{Topology, IsAtEdge, with_port}
use Rattle.raw_flow.specs.Ports.{source_place, placed_topo}
use Rattle.raw_flow.proofs.Homes.{next_edge, next_free, next_stands, all_stand}
use Rattle.raw_flow.proofs.ports.placed_topo.Goals as goal

pub port_count-number-end-requires : goal.port_count-number-end-requires
port_count-number-end-requires c = let few = c.law_wires.ensures.few_ports (placed_topo c.args.flow.now c.args.ports.now) c.requires.topology in omega arith

pub add_port-requires-clause-edge : goal.add_port-requires-clause-edge
add_port-requires-clause-edge c =
    let flow = c.args.flow.now in
    let ports = c.args.ports.now in
    let i = c.loop-number.number in
    let within : i < length (ports.sources ++ ports.sinks) = subst (λ n. i < n) c.port_count-number-end.ensures c.loop-number-test.true in
    subst (λ (t : Topology). IsAtEdge t c.place_at.result) (sym c.loop-number.invariant)
    (subst (λ (p : PortPlace). IsAtEdge (record { cols = flow.cols; rows = flow.rows; places = take i (ports.sources ++ ports.sinks) }) p) (sym c.place_at.ensures)
    (next_edge flow ports c.requires i source_place within))

pub add_port-requires-clause-free : goal.add_port-requires-clause-free
add_port-requires-clause-free c =
    let flow = c.args.flow.now in
    let ports = c.args.ports.now in
    let i = c.loop-number.number in
    let within : i < length (ports.sources ++ ports.sinks) = subst (λ n. i < n) c.port_count-number-end.ensures c.loop-number-test.true in
    subst (λ (t : Topology). Contains t.places c.place_at.result → ⊥) (sym c.loop-number.invariant)
    (subst (λ (p : PortPlace). Contains (take i (ports.sources ++ ports.sinks)) p → ⊥) (sym c.place_at.ensures)
    (next_free flow ports c.requires i source_place within))

pub loop-number-preserved : goal.loop-number-preserved
loop-number-preserved c =
    let flow = c.args.flow.now in
    let ports = c.args.ports.now in
    let i = c.loop-number.number in
    let within : i < length (ports.sources ++ ports.sinks) = subst (λ n. i < n) c.port_count-number-end.ensures c.loop-number-test.true in
    c.add_port.ensures
    ∙ ap (λ (t : Topology). with_port t c.place_at.result) c.loop-number.invariant
    ∙ ap (λ (p : PortPlace). with_port (record { cols = flow.cols; rows = flow.rows; places = take i (ports.sources ++ ports.sinks) }) p) c.place_at.ensures
    ∙ next_stands flow ports c.requires i source_place within

pub returns : goal.returns
returns c =
    let flow = c.args.flow.now in
    let ports = c.args.ports.now in
    c.loop-number.invariant ∙ all_stand flow ports c.requires c.loop-number.number (subst (λ n. n ≤ c.loop-number.number) c.port_count-number-end.ensures c.loop-number-test.false)
