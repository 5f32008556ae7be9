-- Where the ports of a flow stand, and where the values of its nodes are made.
use Rattle.std.proofs.Common.{◌≡◌, ℕ, ◌+◌, ◌%◌, ◌<◌, ◌≤◌, List, ◌++◌, length, take, Option, Some, None, Contains, refl, sym, ap, ◌∙◌, subst, arith, length-append}
use Rattle.std.specs.Prelude.{slice_get, slice_index, slice_index_or}
use Rattle.std.proofs.lemmas.Option.{slice_get-get_or, slice_get_within, get_or_from_slice_get, same_Some}
use Rattle.std.proofs.lemmas.List.{get_or_append_left, get_or-append-add, get_or-take, length-take-le, take_all, take_more}
use Rattle.std.proofs.lemmas.Nat.{mul-add-lt}
use Rattle.std.proofs.Math.Nat.{mod-lt}
use Rattle.raw_grid.specs.declared.parts.PortPlace.{PortPlace}
use Rattle.raw_grid.specs.declared.parts.PortKind.TheVariants.{Source, Sink}
use Rattle.raw_grid.specs.Topology.{Topology, IsAtEdge, with_port}
use Rattle.raw_flow.specs.declared.node.FlowOp.{FlowOp}
use Rattle.raw_flow.specs.declared.node.Node.{Node}
use Rattle.raw_flow.specs.declared.node.Node.TheVariants.{Input, Const, Apply}
use Rattle.raw_flow.specs.Flows.{Dataflow, IsFlow, inputs_in}
use Rattle.raw_flow.specs.Ports.{FlowPorts, ArePorts, source_place, sink_place, source_of, sink_of, placed_topo, tile_at}
use Rattle.raw_flow.specs.Compiled.{home, home_of, tiles_in, source_tile, sink_tile}
use Rattle.raw_flow.proofs.Counting.{before_input}
use Rattle.raw_flow.proofs.Walks.{some_tiles}

module _ (flow : Dataflow) (ports : FlowPorts) (are : ArePorts flow ports) where
  -- a place with a port is a tile of the grid
  pub tile_within : (place : PortPlace) → IsAtEdge (placed_topo flow ports) place → tile_at flow place < tiles_in flow
  tile_within place edge = mul-add-lt place.y flow.cols place.x flow.rows edge.row edge.column

  -- source q, and sink q
  pub source_edge : (q : ℕ) (d : PortPlace) → q < length ports.sources → IsAtEdge (placed_topo flow ports) (slice_index_or ports.sources q d)
  source_edge q d h =
      subst (IsAtEdge (placed_topo flow ports)) (get_or_append_left ports.sources ports.sinks d q h)
      (are.topology.at_edges q d (omega (arith, length-append ports.sources ports.sinks)))

  pub sink_edge : (q : ℕ) (d : PortPlace) → q < length ports.sinks → IsAtEdge (placed_topo flow ports) (slice_index_or ports.sinks q d)
  sink_edge q d h =
      subst (IsAtEdge (placed_topo flow ports)) (get_or-append-add ports.sources ports.sinks q d)
      (are.topology.at_edges (length ports.sources + q) d (omega (arith, length-append ports.sources ports.sinks)))

  -- they are the first ports, and those behind them
  pub source_port : (q : ℕ) (place : PortPlace) → slice_get ports.sources q ≡ Some place → slice_get (ports.sources ++ ports.sinks) q ≡ Some place
  source_port q place at =
      let h : q < length ports.sources = slice_get_within ports.sources q place at in
      slice_get-get_or (ports.sources ++ ports.sinks) q place (omega (arith, length-append ports.sources ports.sinks))
      ∙ ap (λ (x : PortPlace). Some x) (get_or_append_left ports.sources ports.sinks place q h ∙ get_or_from_slice_get ports.sources q place place at)

  pub sink_port : (q : ℕ) (place : PortPlace) → slice_get ports.sinks q ≡ Some place → slice_get (ports.sources ++ ports.sinks) (length ports.sources + q) ≡ Some place
  sink_port q place at =
      let h : q < length ports.sinks = slice_get_within ports.sinks q place at in
      slice_get-get_or (ports.sources ++ ports.sinks) (length ports.sources + q) place (omega (arith, length-append ports.sources ports.sinks))
      ∙ ap (λ (x : PortPlace). Some x) (get_or-append-add ports.sources ports.sinks q place ∙ get_or_from_slice_get ports.sinks q place place at)

  pub source_kind : (q : ℕ) (place : PortPlace) → slice_get ports.sources q ≡ Some place → place.kind ≡ Source
  source_kind q place at =
      subst (λ (x : PortPlace). x.kind ≡ Source) (get_or_from_slice_get ports.sources q place place at)
      (are.sources q place (slice_get_within ports.sources q place at))

  pub sink_kind : (q : ℕ) (place : PortPlace) → slice_get ports.sinks q ≡ Some place → place.kind ≡ Sink
  sink_kind q place at =
      subst (λ (x : PortPlace). x.kind ≡ Sink) (get_or_from_slice_get ports.sinks q place place at)
      (are.sinks q place (slice_get_within ports.sinks q place at))

  -- all ports, one after another: where the first ones stand, the next has its place at an edge where none stands
  abbrev all_places : List PortPlace
  all_places = ports.sources ++ ports.sinks

  abbrev first_ports : ℕ → Topology
  first_ports i = record { cols = flow.cols; rows = flow.rows; places = take i all_places }

  module _ (i : ℕ) (d : PortPlace) (within : i < length all_places) where
    abbrev next : PortPlace
    next = slice_index_or all_places i d

    pub next_edge : IsAtEdge (first_ports i) next
    next_edge = let e = are.topology.at_edges i d within in record { column = e.column; row = e.row; edge = e.edge }

    pub next_free : Contains (take i all_places) next → ⊥
    next_free (k, h, e) =
        let few : i ≤ length all_places = omega arith in
        let below : k < i = omega (arith, h, length-take-le i all_places few) in
        let same : slice_index_or all_places i next ≡ next =
        same_Some (slice_index_or all_places i next) next (sym (slice_get-get_or all_places i next within) ∙ slice_get-get_or all_places i d within) in
        are.topology.distinct k i next below within (sym (get_or-take i all_places k next below) ∙ e ∙ sym same)

    pub next_stands : with_port (first_ports i) next ≡ first_ports (i + 1)
    next_stands = ap (λ places. record { cols = flow.cols; rows = flow.rows; places = places }) (sym (take_more all_places i d within))

  pub all_stand : (i : ℕ) → length all_places ≤ i → first_ports i ≡ placed_topo flow ports
  all_stand i past = ap (λ places. record { cols = flow.cols; rows = flow.rows; places = places }) (take_all i all_places past)

  -- the source of input k, and the sink of out i
  module _ (k : ℕ) (h : k < inputs_in flow.nodes) where
    pub source_at : slice_get ports.sources (slice_index ports.comes k) ≡ Some (source_of ports k)
    source_at = slice_get-get_or ports.sources (slice_index ports.comes k) source_place (are.comes k h)

    pub source_within : source_tile flow ports k < tiles_in flow
    source_within = tile_within (source_of ports k) (source_edge (slice_index ports.comes k) source_place (are.comes k h))

  module _ (i : ℕ) (h : i < length flow.outs) where
    pub sink_at : slice_get ports.sinks (slice_index ports.goes i) ≡ Some (sink_of ports i)
    sink_at = slice_get-get_or ports.sinks (slice_index ports.goes i) sink_place (are.goes i h)

    pub sink_within : sink_tile flow ports i < tiles_in flow
    sink_within = tile_within (sink_of ports i) (sink_edge (slice_index ports.goes i) sink_place (are.goes i h))

  -- each home is a tile of the grid
  pub home_within : IsFlow flow → (v : ℕ) → home flow ports v < tiles_in flow
  unfolding home
  home_within is v = by (slice_get flow.nodes v) refl
    where
      own : ℕ
      own = source_tile flow ports (inputs_in (take v flow.nodes))

      by : (o : Option Node) → slice_get flow.nodes v ≡ o → home_of (tiles_in flow) own v o < tiles_in flow
      by (Some Input) e = source_within (inputs_in (take v flow.nodes)) (before_input flow.nodes v e)
      by (Some (Const word)) e = mod-lt v (some_tiles flow is)
      by (Some (Apply op a b)) e = mod-lt v (some_tiles flow is)
      by None e = some_tiles flow is

-- the home of an input
pub input_home : (flow : Dataflow) (ports : FlowPorts) (v : ℕ) → slice_get flow.nodes v ≡ Some Input → home flow ports v ≡ source_tile flow ports (inputs_in (take v flow.nodes))
unfolding home
input_home flow ports v e = ap (home_of (tiles_in flow) (source_tile flow ports (inputs_in (take v flow.nodes))) v) e

-- that of the other nodes
pub const_home : (flow : Dataflow) (ports : FlowPorts) (v word : ℕ) → slice_get flow.nodes v ≡ Some (Const word) → home flow ports v ≡ v % tiles_in flow
unfolding home
const_home flow ports v word e = ap (home_of (tiles_in flow) (source_tile flow ports (inputs_in (take v flow.nodes))) v) e

pub apply_home : (flow : Dataflow) (ports : FlowPorts) (v : ℕ) (op : FlowOp) (a b : ℕ) → slice_get flow.nodes v ≡ Some (Apply op a b) → home flow ports v ≡ v % tiles_in flow
unfolding home
apply_home flow ports v op a b e = ap (home_of (tiles_in flow) (source_tile flow ports (inputs_in (take v flow.nodes))) v) e
