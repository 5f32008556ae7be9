-- The usual ports: a source and a sink at the west of tile 0.
use Rattle.std.proofs.Common.{◌≡◌, ◌≢◌, ℕ, ◌≤◌, List, [], ◌∷◌, refl, ap, arith}
use Rattle.std.specs.List.{AllPairs}
use Rattle.std.proofs.lemmas.List.Elements.{All-nil, All-cons}
use Rattle.std.proofs.lemmas.List.Kept.{AllPairs-cons}
use Rattle.raw_grid.specs.declared.parts.PortKind.TheVariants.{Source, Sink}
use Rattle.raw_grid.specs.declared.parts.PortPlace.{PortPlace}
use Rattle.raw_grid.specs.Topology.{Topology, IsTopology, IsAtEdge}
use Rattle.raw_flow.specs.Flows.{Dataflow, IsFlow}
use Rattle.raw_flow.specs.Ports.{ArePorts, usual_ports, source_place, sink_place}
use Rattle.raw_flow.specs.Compiled.{flow_topo, compiled}
use Rattle.raw_flow.specs.Right.{EachRunIsRightAt, EachRunIsRight, EachPlacedFlowIsRight, EachPlacedIsSet, EachFlowIsRight, EachIsSet}

edge_source : (t : Topology) → 1 ≤ t.cols → 1 ≤ t.rows → IsAtEdge t source_place
edge_source t c r = record { column = omega arith; row = omega arith; edge = search }

edge_sink : (t : Topology) → 1 ≤ t.cols → 1 ≤ t.rows → IsAtEdge t sink_place
edge_sink t c r = record { column = omega arith; row = omega arith; edge = search }

differ : source_place ≢ sink_place
differ e = let k = ap (λ (p : PortPlace). p.kind) e in cc k

abbrev Differ : PortPlace → PortPlace → Type 0
Differ a b = a ≢ b

none_pairs : AllPairs Differ []
none_pairs i j d h k = absurd (omega arith)

pub topology : (flow : Dataflow) → IsFlow flow → IsTopology (flow_topo flow)
topology flow is = record {
  size = is.size;
  at_edges = All-cons (IsAtEdge (flow_topo flow)) source_place (sink_place ∷ []) (edge_source (flow_topo flow) is.size.some_cols is.size.some_rows)
      (All-cons (IsAtEdge (flow_topo flow)) sink_place [] (edge_sink (flow_topo flow) is.size.some_cols is.size.some_rows) (All-nil (IsAtEdge (flow_topo flow))));
  distinct =
      AllPairs-cons Differ source_place (sink_place ∷ []) (All-cons (Differ source_place) sink_place [] differ (All-nil (Differ source_place)))
      (AllPairs-cons Differ sink_place [] (All-nil (Differ sink_place)) none_pairs);
}

pub usual_are : (flow : Dataflow) → IsFlow flow → ArePorts flow usual_ports
usual_are flow is = record {
  topology = topology flow is;
  sources = All-cons (λ (place : PortPlace). place.kind ≡ Source) source_place [] refl (All-nil (λ (place : PortPlace). place.kind ≡ Source));
  sinks = All-cons (λ (place : PortPlace). place.kind ≡ Sink) sink_place [] refl (All-nil (λ (place : PortPlace). place.kind ≡ Sink));
  comes = λ k h. omega arith;
  goes = λ i h. omega arith;
}

-- what is so for all ports is so for these
pub run_is_right : (flow : Dataflow) (inputs : List ℕ) → EachRunIsRightAt flow usual_ports inputs → EachRunIsRight flow inputs
unfolding compiled
run_is_right flow inputs right steps run = let is = right steps run in record { done = is.done; values = is.values 0 (omega arith) }

pub flow_is_right : EachPlacedFlowIsRight → EachFlowIsRight
unfolding compiled
flow_is_right law flow inputs is given valid = run_is_right flow inputs (law flow usual_ports inputs is (usual_are flow is) given valid)

pub is_set : EachPlacedIsSet → EachIsSet
unfolding compiled
is_set law flow inputs is given short = law flow usual_ports inputs is (usual_are flow is) given short
