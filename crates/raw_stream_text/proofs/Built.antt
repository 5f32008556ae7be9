-- The stream that is built, where all lines are added.
use Rattle.std.proofs.Common.{◌∷◌, ◌≡◌, ℕ, ◌≤◌, Bool, false, not, ◌&&◌, ltb, List, [], length, get_or, map, Option, Some, Result, Ok, Err, refl, sym, ap, ◌∙◌, subst, arith}
use Rattle.std.specs.Prelude.{slice_get}
use Rattle.std.specs.Result.{IsErrAnd}
use Rattle.std.specs.Option.{is_some}
use Rattle.std.specs.List.{All, filter_map}
use Rattle.std.proofs.lemmas.Bool.{or_parts, and_parts, ltb-true}
use Rattle.std.proofs.lemmas.List.{length-map}
use Rattle.std.proofs.lemmas.List.Elements.{All-nil, All-head}
use Rattle.raw_grid.specs.declared.parts.PortKind.TheVariants as kind
use Rattle.raw_grid.specs.declared.parts.PortPlace.{PortPlace}
use Rattle.raw_grid.specs.Topology.{Topology, neighbour, without_ports}
use Rattle.raw_set_text.specs.declared.declaration.Edge.{Edge}
use Rattle.raw_set_text.specs.declared.kind.SetKind.{SetKind}
use Rattle.raw_set_text.specs.declared.kind.SetRefusal.{SetRefusal}
use Rattle.raw_set_text.specs.declared.kind.SetRefusal.TheVariants.{At, Memory}
use Rattle.raw_set_text.specs.Entry.{place_of}
use Rattle.raw_flow_text.specs.Building.{Answers}
use Rattle.raw_flow_text.proofs.Sound.{not_false}
use Rattle.raw_stream.specs.declared.out.StreamOut.{StreamOut}
use Rattle.raw_stream.specs.declared.row_node.RowNode.{RowNode}
use Rattle.raw_stream.specs.Streams.{Stream}
use Rattle.raw_stream_text.specs.declared.builder.Builder.{Builder}
use Rattle.raw_stream_text.specs.declared.named.Named.{Named}
use Rattle.raw_stream_text.specs.Edges.{places_of}
use Rattle.raw_stream_text.specs.Seated.{IsNear}
use Rattle.raw_stream_text.specs.Statement.{Statement}
use Rattle.raw_stream_text.specs.Streams.{FedStream, size_of, size_in, count_in, source_of, sink_of, names_in, sources_in, sinks_in, node_of, out_of, feeds_in, words_of_all, stream_by, fed_by}
use Rattle.raw_stream_text.specs.Faults.{is_off_edge, are_fed, whole_fault, end_fault}
use Rattle.raw_stream_text.specs.Building.{IsNamed, BuilderStands, feed_in}
use Rattle.raw_stream_text.proofs.Edges.{all_once}
use Rattle.raw_stream_text.proofs.Next.{few_said}
use Rattle.raw_stream_text.proofs.Sound.{IsGrid, IsSeat, AreSound}

-- ---- the edges of sources and sinks are near the grid
near_one : (sizes : List (ℕ × ℕ)) (edge : Edge) → All IsGrid sizes → is_off_edge (slice_get sizes 0) edge ≡ false → IsNear edge
near_one [] edge all off = absurd (cc off)
near_one (size ∷ sizes) edge all off =
    let parts = or_parts (not (ltb edge.tile.x size.0 && ltb edge.tile.y size.1)) (is_some (neighbour (without_ports size.0 size.1) edge.tile.x edge.tile.y edge.side)) off in
    let both = and_parts (ltb edge.tile.x size.0) (ltb edge.tile.y size.1) (not_false _ parts.0) in
    let fits : IsGrid size = All-head IsGrid size sizes all in
    record {
      column = omega (arith, ltb-true edge.tile.x size.0 both.0, fits.most_cols);
      row = omega (arith, ltb-true edge.tile.y size.1 both.1, fits.most_rows);
    }

near_all : (sizes : List (ℕ × ℕ)) (edges : List Edge) → All IsGrid sizes → All (IsSeat (slice_get sizes 0)) edges → All IsNear edges
near_all sizes edges all seats k d within = near_one sizes (get_or edges k d) all (seats k d within)

pub near_sources : (claimed : Option Topology) (all : List Statement) → AreSound claimed all all → All IsNear (sources_in all)
near_sources claimed all are = all_once IsNear [] (filter_map source_of all) (All-nil IsNear) (near_all (filter_map size_of all) (filter_map source_of all) are.sizes are.sources)

pub near_sinks : (claimed : Option Topology) (all : List Statement) → AreSound claimed all all → All IsNear (sinks_in all)
near_sinks claimed all are = all_once IsNear [] (filter_map sink_of all) (All-nil IsNear) (near_all (filter_map size_of all) (filter_map sink_of all) are.sizes are.sinks)

-- no more nodes and outs than statements
pub few_nodes : (builder : Builder) (all : List Statement) (n : ℕ) → length all ≤ n → BuilderStands builder all all → length builder.nodes.items ≤ n
few_nodes builder all n few stands = omega (arith, few, ap length stands.nodes, few_said (node_of (names_in all) (sources_in all)) all)

pub few_outs : (builder : Builder) (all : List Statement) (n : ℕ) → length all ≤ n → BuilderStands builder all all → length builder.outs.items ≤ n
few_outs builder all n few stands = omega (arith, few, ap length stands.outs, few_said (out_of (names_in all) (sinks_in all)) all)

-- ---- answers
told_again : (T U : Type 0) (refusal : SetRefusal) (number : ℕ) (fault : Option SetKind) → Answers {T = U} (Err refusal) number fault → Answers {T = T} (Err refusal) number fault
told_again T U (At line kind) number fault answers = answers
told_again T U Memory number fault answers = tt

-- a refusal that is passed on
pub answers_passed : {T : Type 0} (U : Type 0) (result : Result T SetRefusal) (refusal : SetRefusal) (number : ℕ) (fault : Option SetKind) → IsErrAnd result (λ other. other ≡ refusal)
    → Answers {T = U} (Err refusal) number fault → Answers result number fault
answers_passed U (Ok done) refusal number fault is answers = absurd is
answers_passed {T} U (Err other) refusal number fault is answers = subst (λ r. Answers {T = T} (Err r) number fault) (sym is) (told_again T U refusal number fault answers)

-- ---- the whole
abbrev pub made : ℕ × ℕ → ℕ → List PortPlace → List PortPlace → List RowNode → List StreamOut → Stream
made size many sources sinks nodes outs = record { cols = size.0; rows = size.1; count = many; sources = sources; sinks = sinks; nodes = nodes; outs = outs }

abbrev pub fed_with : Stream → List ℕ → FedStream
fed_with stream words = record { stream = stream; words = words }

module _ (claimed : Option Topology) (builder : Builder) (named : Named) (all : List Statement) (is : IsNamed named all) (stands : BuilderStands builder all all)
    (size : ℕ × ℕ) (many : ℕ) (sized : builder.size ≡ Some size) (counted : builder.count ≡ Some many) where
  pub built : (sources sinks : List PortPlace) → sources ≡ places_of kind.Source named.sources → sinks ≡ places_of kind.Sink named.sinks
      → made size many sources sinks builder.nodes.items builder.outs.items ≡ stream_by all
  unfolding stream_by
  built sources sinks from to =
      let given : size_in all ≡ Some size = sym stands.size ∙ sized in
      let rows : count_in all ≡ Some many = sym stands.count ∙ counted in
      rw (given, rows, from, to, is.sources, is.sinks, stands.nodes, stands.outs) refl

  ends : end_fault claimed all ≡ whole_fault (are_fed claimed (feeds_in all)) (stream_by all) (feeds_in all)
  unfolding end_fault
  ends =
      let given : size_in all ≡ Some size = sym stands.size ∙ sized in
      let rows : count_in all ≡ Some many = sym stands.count ∙ counted in
      rw (given, rows) refl

  -- the answer that was given for the stream is that for the text
  pub ended : {T : Type 0} (result : Result T SetRefusal) (end : ℕ) (fed : Bool) (stream : Stream) → stream ≡ stream_by all → fed ≡ are_fed claimed (map feed_in builder.feeds.items)
      → Answers result end (whole_fault fed stream (map feed_in builder.feeds.items)) → Answers result end (end_fault claimed all)
  ended result end fed stream same matters answers =
      let feeds : List (ℕ × List ℕ) = map feed_in builder.feeds.items in
      subst (Answers result end)
      (ap (λ b. whole_fault b stream feeds) matters
      ∙ ap (λ s. whole_fault (are_fed claimed feeds) s feeds) same
      ∙ ap (λ fs. whole_fault (are_fed claimed fs) (stream_by all) fs) stands.feeds
      ∙ sym ends)
      answers

  pub fed_is : (stream : Stream) (words : List ℕ) (n : ℕ) → stream ≡ stream_by all → n ≡ length stream.sources → words ≡ words_of_all (map feed_in builder.feeds.items) n → fed_with stream words ≡ fed_by all
  unfolding fed_by stream_by
  fed_is stream words n same long are =
      let many_sources : n ≡ length (sources_in all) = long ∙ ap (λ (s : Stream). length s.sources) same ∙ length-map (sources_in all) (place_of kind.Source) in
      ap (λ s. fed_with s words) same
      ∙ ap (fed_with (stream_by all)) (are ∙ ap (λ fs. words_of_all fs n) stands.feeds ∙ ap (words_of_all (feeds_in all)) many_sources)
