-- The ports of a stream are those of the flow that it is, and its compiled set is right.
use Rattle.std.proofs.Common.{◌≡◌, ◌≢◌, ℕ, ◌+◌, ◌-◌, ◌*◌, ◌<◌, ◌≤◌, List, ◌++◌, length, get_or, refl, sym, ap, ◌∙◌, ⊎_elim, arith}
use Rattle.std.specs.List.{All, AllPairs}
use Rattle.std.proofs.lemmas.Bool.{cases_lt}
use Rattle.std.proofs.lemmas.List.{length-append, get_or_append_left, get_or-append_right}
use Rattle.std.proofs.lemmas.List.Elements.{All-append}
use Rattle.raw_grid.specs.declared.parts.PortKind.TheVariants.{Source, Sink}
use Rattle.raw_grid.specs.declared.parts.PortPlace.{PortPlace}
use Rattle.raw_grid.specs.Topology.{Topology, IsTopology, IsAtEdge, without_ports}
use Rattle.raw_flow.specs.Ports.{ArePorts, picked, placed_topo}
use Rattle.raw_flow.specs.Right.{EachRunIsRightAt, EachPlacedFlowIsRight, EachPlacedIsSet}
use Rattle.raw_stream.specs.Streams.{Stream}
use Rattle.raw_stream.specs.Unrolled.{width, unrolled, IsLawful, EachUnrolledIsLawful, EachUnrolledIsRows}
use Rattle.raw_stream.specs.Kept.{IsStream, due_count}
use Rattle.raw_stream.proofs.Within.{unrolled_long}
use Rattle.raw_unroll.specs.Compiled.{in_turn, stream_ports, EachStreamIsPlaced, EachStreamRunIsRight, EachStreamIsRight, EachStreamIsSet}
use Rattle.raw_unroll.proofs.Made.{is_flow}
use Rattle.raw_unroll.proofs.Turns.{turns_below, goes_long, comes_long, each_own}

abbrev Differ : PortPlace → PortPlace → Type 0
Differ a b = a ≢ b

-- places of sources and of sinks, each of its own
differ_in_all : (sources sinks : List PortPlace) → All (λ (p : PortPlace). p.kind ≡ Source) sources → All (λ (p : PortPlace). p.kind ≡ Sink) sinks → AllPairs Differ sources → AllPairs Differ sinks
    → AllPairs Differ (sources ++ sinks)
differ_in_all sources sinks are_sources are_sinks pairs others i j d below within = ⊎_elim both (λ (past : length sources ≤ j). ⊎_elim (mixed past) (later past) (cases_lt i (length sources))) (cases_lt j (length sources))
  where
    m : ℕ
    m = length sources

    many : length (sources ++ sinks) ≡ length sources + length sinks
    many = length-append sources sinks

    first : (k : ℕ) → k < m → get_or (sources ++ sinks) k d ≡ get_or sources k d
    first k h = get_or_append_left sources sinks d k h

    last : (k : ℕ) → m ≤ k → get_or (sources ++ sinks) k d ≡ get_or sinks (k - m) d
    last k h = get_or-append_right sources sinks m k d refl h

    both : j < m → Differ (get_or (sources ++ sinks) i d) (get_or (sources ++ sinks) j d)
    both h e = pairs i j d below h (sym (first i (omega arith)) ∙ e ∙ first j h)

    mixed : m ≤ j → i < m → Differ (get_or (sources ++ sinks) i d) (get_or (sources ++ sinks) j d)
    mixed past h e =
        let room : j - m < length sinks = omega (arith, many, within) in
        let same : get_or sources i d ≡ get_or sinks (j - m) d = sym (first i h) ∙ e ∙ last j past in
        let kinds : Source ≡ Sink = sym (are_sources i d h) ∙ ap (λ (p : PortPlace). p.kind) same ∙ are_sinks (j - m) d room in
        cc kinds

    later : m ≤ j → m ≤ i → Differ (get_or (sources ++ sinks) i d) (get_or (sources ++ sinks) j d)
    later past h e =
        let room : j - m < length sinks = omega (arith, many, within) in
        others (i - m) (j - m) d (omega (arith, below, past, h)) room (sym (last i h) ∙ e ∙ last j past)

module _ (s : Stream) (is : IsStream s) where
  abbrev pub topo : Topology
  topo = placed_topo (unrolled s) (stream_ports s)

  edge : (place : PortPlace) → IsAtEdge (without_ports s.cols s.rows) place → IsAtEdge topo place
  edge place e = record { column = e.column; row = e.row; edge = e.edge }

  pub topology : IsTopology topo
  topology = record {
    size = is.size;
    at_edges = All-append (IsAtEdge topo) s.sources s.sinks (λ k d h. edge (get_or s.sources k d) (is.sources.at_edges k d h)) (λ k d h. edge (get_or s.sinks k d) (is.sinks.at_edges k d h));
    distinct = differ_in_all s.sources s.sinks is.sources.kinds is.sinks.kinds is.sources.distinct is.sinks.distinct;
  }

  pub are_placed : IsLawful s → ArePorts (unrolled s) (stream_ports s)
  are_placed lawful = record {
    topology = topology;
    sources = is.sources.kinds;
    sinks = is.sinks.kinds;
    comes = λ k h. turns_below (λ q. s.count * width s q) (length s.sources) 0 (length s.sources) (omega arith) k 0 (omega (arith, h, lawful.inputs, comes_long s (length s.sources)));
    goes = λ i h. turns_below (due_count s) (length s.sinks) 0 (length s.sinks) (omega arith) i 0 (omega (arith, h, goes_long s));
  }

pub stream_is_placed : EachUnrolledIsLawful → EachStreamIsPlaced
stream_is_placed lawful s is few =
    let long = unrolled_long s in
    record { flow = is_flow s is (omega (arith, few, long)); ports = are_placed s is (lawful s is.named); inputs = (lawful s is.named).inputs }

-- what is so of the outs of the flow is so of what the sinks are due
pub run_is_right : EachUnrolledIsRows → (s : Stream) (words : List ℕ) → IsStream s → EachRunIsRightAt (unrolled s) (stream_ports s) words → EachStreamRunIsRight s words
run_is_right rows s words is law steps run =
    let right = law steps run in
    record {
      done = right.done;
      due = λ q h. right.values q h ∙ ap (picked q (in_turn (due_count s) (length s.sinks))) (rows s words is.named) ∙ each_own s words q h;
    }

pub stream_is_right : EachUnrolledIsLawful → EachUnrolledIsRows → EachPlacedFlowIsRight → EachStreamIsRight
stream_is_right lawful rows law s words is few given valid =
    let placed = stream_is_placed lawful s is few in
    run_is_right rows s words is (law (unrolled s) (stream_ports s) words placed.flow placed.ports given valid)

pub stream_is_set : EachUnrolledIsLawful → EachPlacedIsSet → EachStreamIsSet
stream_is_set lawful law s words is few given short =
    let placed = stream_is_placed lawful s is few in
    law (unrolled s) (stream_ports s) words placed.flow placed.ports given short
