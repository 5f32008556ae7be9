-- A text without a fault means a stream that keeps all that streams keep.
use Rattle.std.proofs.Common.{◌≡◌, ◌≢◌, ℕ, zero, suc, ◌+◌, ◌*◌, ◌<◌, ◌≤◌, Bool, true, false, not, ◌&&◌, ◌||◌, eqb, ltb, List, [], ◌∷◌, ◌++◌, length, get_or, Option, Some, None, unwrap_or, refl, sym, ap, ◌∙◌, subst, arith, inl, inr, ⊎_elim, append-nil, add-one, cond, ◌^◌}
use Rattle.std.specs.Prelude.{slice_get, Result, IfOk}
use Rattle.std.specs.Option.{is_some, is_none}
use Rattle.std.specs.List.{All, AllPairs, filter_map, flat_map, list_any, range_with_len, position_or_len}
use Rattle.std.proofs.lemmas.Bool.{or_parts, and_parts, both_ways, cases_Bool, cases_lt, eqb-false, ltb-true, ltb-false, lt-ltb}
use Rattle.std.proofs.lemmas.List.{length-append, length-map, get_or-map}
use Rattle.std.proofs.lemmas.List.Elements.{All-nil, All-append, All-map, All-head, All-tail}
use Rattle.std.proofs.lemmas.List.Folds.{list_any_at}
use Rattle.std.proofs.lemmas.Grind.{flat_map-append}
use Rattle.std.proofs.lemmas.List.FromFn.{length-range_with_len, get_or-range_with_len}
use Rattle.std.proofs.lemmas.List.Quantifiers.{all_pairs_push}
use Rattle.std.proofs.lemmas.List.Sums.{prefix_len_passes}
use Rattle.std.proofs.lemmas.Result.{IfOk-weaker}
use Rattle.raw_grid.specs.declared.parts.PortKind.{PortKind}
use Rattle.raw_grid.specs.declared.parts.PortKind.TheVariants as kind
use Rattle.raw_grid.specs.declared.parts.PortPlace.{PortPlace}
use Rattle.raw_grid.specs.Names.{net_number, side_number}
use Rattle.raw_grid.specs.Topology.{Topology, IsAtEdge, neighbour, without_ports}
use Rattle.raw_model.specs.declared.limits.TheConstants.{MAX_ALL_WORDS, MAX_CAPACITY, MAX_ALL_CAPACITIES}
use Rattle.raw_set_text.specs.declared.declaration.Edge.{Edge}
use Rattle.raw_set_text.specs.declared.kind.SetKind.TheVariants.{Missing, OverLimit}
use Rattle.raw_set_text.specs.declared.kind.SetRefusal.{SetRefusal}
use Rattle.raw_set_text.specs.Entry.{place_of, same_place}
use Rattle.raw_set_text.specs.Faults.{fault_if}
use Rattle.raw_set_text.proofs.Lawful.Entries.{none_if}
use Rattle.raw_flow.specs.declared.limits.TheConstants.{MAX_NODES}
use Rattle.raw_answer.specs.Places.{AreFaultless}
use Rattle.raw_flow_text.proofs.Sound.{some_size, not_false}
use Rattle.raw_stream.specs.Streams.{Stream}
use Rattle.raw_stream.specs.Unrolled.{width, first, word_count}
use Rattle.raw_stream.specs.Kept.{ArePlaced, due_count, has_full_sink, all_due_count, is_large}
use Rattle.raw_stream.proofs.Sums.{range_push}
use Rattle.raw_stream_text.specs.Edges.{Key, key_of, same_key, same_edge, edge_number, with_edge, each_once, places_of}
use Rattle.raw_stream_text.specs.Statement.{Statement}
use Rattle.raw_stream_text.specs.Forms.{usual_edge}
use Rattle.raw_stream_text.specs.Streams.{FedStream, size_of, size_in, count_of, count_in, names_in, source_of, sink_of, sources_in, sinks_in, feeds_in, words_at, words_to, words_of_all, stream_by, fed_by}
use Rattle.raw_stream_text.specs.Faults.{is_off_edge, are_fed, has_fewer, has_more, whole_fault, end_fault}
use Rattle.raw_stream_text.specs.Meaning.{said_in, fault_at, IsMeaning, IsPortOf, HasWords, HasPorts, IsFed}
use Rattle.raw_stream_text.proofs.Edges.{all_once, edge_itself}
use Rattle.raw_stream_text.proofs.Standing.{count}
use Rattle.raw_stream_text.proofs.Sound.{IsCount, IsSeat, IsClaimed, AreWords, AreSound}
use Rattle.raw_stream_text.proofs.Passing.{all_sound, at_end}

-- ---- tests of each number
each_false : {X : Type 0} (p : X → Bool) (xs : List X) (i : ℕ) (d : X) → list_any p xs ≡ false → i < length xs → p (get_or xs i d) ≡ false
each_false p xs i d none lt =
    ⊎_elim (λ (here : p (get_or xs i d) ≡ true). absurd (both_ways _ none (list_any_at p xs i d lt here))) (λ (no' : p (get_or xs i d) ≡ false). no') (cases_Bool (p (get_or xs i d)))

range_false : (p : ℕ → Bool) (n q : ℕ) → list_any p (range_with_len 0 n) ≡ false → q < n → p q ≡ false
range_false p n q none lt =
    let found : get_or (range_with_len 0 n) q 0 ≡ q = get_or-range_with_len 0 n q 0 lt ∙ omega arith in
    sym (ap p found) ∙ each_false p (range_with_len 0 n) q 0 none (omega (arith, lt, length-range_with_len 0 n))

-- ---- the edges of sources and sinks
-- two edges have different places
abbrev Apart : Edge → Edge → Type 0
Apart a b = same_edge a b ≡ false

-- an edge that has no number differs from each
none_same : (edges : List Edge) (edge : Edge) → is_some (edge_number edges edge) ≡ false → (k : ℕ) (d : Edge) → k < length edges → Apart (get_or edges k d) edge
none_same edges edge none k d lt =
    let differs = λ (other : Edge). not (same_edge other edge) in
    let whole : length edges ≤ position_or_len (λ (other : Edge). same_edge other edge) edges = at_end (position_or_len (λ (other : Edge). same_edge other edge) edges) none in
    not_true (same_edge (get_or edges k d) edge) (prefix_len_passes differs edges k d (omega (arith, lt, whole)))
  where
    at_end : (n : ℕ) → is_some (cond (ltb n (length edges)) (Some n) None) ≡ false → length edges ≤ n
    at_end n e =
        ⊎_elim (λ (less : n < length edges). absurd (cc (rw (lt-ltb n (length edges) less) at e))) (λ (ge : length edges ≤ n). ge) (cases_lt n (length edges))

    not_true : (b : Bool) → not b ≡ true → b ≡ false
    not_true true e = absurd (cc e)
    not_true false e = refl

apart_with : (edges : List Edge) (edge : Edge) → AllPairs Apart edges → AllPairs Apart (with_edge edges edge)
apart_with edges edge apart = by (is_some (edge_number edges edge)) refl where
  by : (b : Bool) → is_some (edge_number edges edge) ≡ b → AllPairs Apart (cond b edges (edges ++ edge ∷ []))
  by true e = apart
  by false e = all_pairs_push Apart edges edge apart (none_same edges edge e)

apart_once : (before edges : List Edge) → AllPairs Apart before → AllPairs Apart (each_once before edges)
apart_once before [] apart = apart
apart_once before (edge ∷ edges) apart = apart_once (with_edge before edge) edges (apart_with before edge apart)

-- a place at the edge of the grid
seat_at : (size : Option (ℕ × ℕ)) (which : PortKind) (edge : Edge) → is_off_edge size edge ≡ false → IsAtEdge (without_ports (unwrap_or size (0, 0)).0 (unwrap_or size (0, 0)).1) (place_of which edge)
seat_at None which edge off = absurd (cc off)
seat_at (Some size) which edge off =
    let parts = or_parts (not (ltb edge.tile.x size.0 && ltb edge.tile.y size.1)) (is_some (neighbour (without_ports size.0 size.1) edge.tile.x edge.tile.y edge.side)) off in
    let both = and_parts (ltb edge.tile.x size.0) (ltb edge.tile.y size.1) (not_false _ parts.0) in
    record { column = ltb-true edge.tile.x size.0 both.0; row = ltb-true edge.tile.y size.1 both.1; edge = parts.1 }

abbrev place_key : PortPlace → Key
place_key place = (net_number place.net, place.x, place.y, side_number place.side)

differ : (which : PortKind) (a b : Edge) → Apart a b → place_of which a ≢ place_of which b
differ which a b apart same = both_ways (same_edge a b) apart (ap (λ (p : PortPlace). same_key (place_key p) (key_of b)) same ∙ edge_itself b)

places_differ : (which : PortKind) (edges : List Edge) → AllPairs Apart edges → AllPairs (λ (a : PortPlace) b. a ≢ b) (places_of which edges)
places_differ which edges apart i j d less within =
    let long : length (places_of which edges) ≡ length edges = length-map edges (place_of which) in
    let low : i < length edges = omega (arith, less, within, long) in
    let high : j < length edges = omega (arith, within, long) in
    let one : get_or (places_of which edges) i d ≡ place_of which (get_or edges i usual_edge) = get_or-map (place_of which) edges i usual_edge d low in
    let other : get_or (places_of which edges) j d ≡ place_of which (get_or edges j usual_edge) = get_or-map (place_of which) edges j usual_edge d high in
    rw (one, other) (differ which (get_or edges i usual_edge) (get_or edges j usual_edge) (apart i j usual_edge less high))

none_apart : AllPairs Apart []
none_apart i j d less within = absurd (omega (arith, within))

placed : (which : PortKind) (size : Option (ℕ × ℕ)) (edges : List Edge) → All (IsSeat size) edges
    → ArePlaced (without_ports (unwrap_or size (0, 0)).0 (unwrap_or size (0, 0)).1) which (places_of which (each_once [] edges))
placed which size edges seats =
    let once = each_once [] edges in
    let all = all_once (IsSeat size) [] edges (All-nil (IsSeat size)) seats in
    record {
      kinds = All-map (λ (place : PortPlace). place.kind ≡ which) (place_of which) once (λ k d lt. refl);
      at_edges = All-map (IsAtEdge (without_ports (unwrap_or size (0, 0)).0 (unwrap_or size (0, 0)).1)) (place_of which) once (λ k d lt. seat_at size which (get_or once k d) (all k d lt));
      distinct = places_differ which once (apart_once [] edges none_apart);
    }

-- ---- the words of the sources
pub flat_more : (f : ℕ → List ℕ) (n : ℕ) → flat_map f (range_with_len 0 (n + 1)) ≡ flat_map f (range_with_len 0 n) ++ f n
flat_more f n =
    let zero_and : 0 + n ≡ n = omega arith in
    ap (flat_map f) (range_push 0 n) ∙ flat_map-append f (range_with_len 0 n) ((0 + n) ∷ []) ∙ ap (λ xs. flat_map f (range_with_len 0 n) ++ xs) (append-nil (f (0 + n)) ∙ ap f zero_and)

flat_push : (f : ℕ → List ℕ) (n : ℕ) → flat_map f (range_with_len 0 (suc n)) ≡ flat_map f (range_with_len 0 n) ++ f n
flat_push f n = subst (λ m. flat_map f (range_with_len 0 m) ≡ flat_map f (range_with_len 0 n) ++ f n) (add-one n) (flat_more f n)

words_long : (feeds : List (ℕ × List ℕ)) (s : Stream) (n : ℕ) → ((q : ℕ) → q < n → length (words_to feeds q) ≡ s.count * width s q) → length (words_of_all feeds n) ≡ first s n
words_long feeds s zero each = refl
words_long feeds s (suc n) each =
    let before = words_long feeds s n (λ q lt. each q (omega (arith, lt))) in
    let here = each n (omega arith) in
    ap length (flat_push (words_to feeds) n) ∙ length-append (words_of_all feeds n) (words_to feeds n) ∙ omega (arith, before, here)

nothing_fed : (n : ℕ) (feeds : List (ℕ × List ℕ)) → ltb 0 (length feeds) ≡ false → words_of_all feeds n ≡ []
nothing_fed n (fed ∷ feeds) none = absurd (omega (arith, ltb-false 0 (length (fed ∷ feeds)) none))
nothing_fed n [] none = by (range_with_len 0 n) where
  by : (qs : List ℕ) → flat_map (words_to []) qs ≡ []
  by [] = refl
  by (q ∷ qs) = by qs

all_flat : {X : Type 0} (P : ℕ → Type 0) (f : X → List ℕ) (xs : List X) → All (λ x. All P (f x)) xs → All P (flat_map f xs)
all_flat P f [] all = All-nil P
all_flat P f (x ∷ xs) all = All-append P (f x) (flat_map f xs) (All-head (λ y. All P (f y)) x xs all) (all_flat P f xs (All-tail (λ y. All P (f y)) x xs all))

abbrev IsWord : ℕ → Type 0
IsWord word = word < 2 ^ 32

words_small : (feeds : List (ℕ × List ℕ)) (n : ℕ) → All AreWords feeds → All IsWord (words_of_all feeds n)
words_small feeds n all = all_flat IsWord (words_to feeds) (range_with_len 0 n) (λ k d lt. each (get_or (range_with_len 0 n) k d)) where
  one : (b : Bool) (words : List ℕ) → All IsWord words → All IsWord (cond b words [])
  one true words is = is
  one false words is = All-nil IsWord

  each : (q : ℕ) → All IsWord (words_to feeds q)
  each q = all_flat IsWord (words_at q) feeds (λ k d lt. one (eqb (get_or feeds k d).0 q) (get_or feeds k d).1 (all k d lt))

-- ---- the ports of the set that is claimed
port_at : (topo : Topology) (which : PortKind) (edge : Edge) → IsClaimed (Some topo) which edge → IsPortOf topo (place_of which edge)
port_at topo which edge is = not_false (list_any (same_place (place_of which edge)) topo.places) is

ports_at : (topo : Topology) (which : PortKind) (edges : List Edge) → All (IsClaimed (Some topo) which) edges → All (IsPortOf topo) (places_of which (each_once [] edges))
ports_at topo which edges all =
    let once = each_once [] edges in
    let are = all_once (IsClaimed (Some topo) which) [] edges (All-nil (IsClaimed (Some topo) which)) all in
    All-map (IsPortOf topo) (place_of which) once (λ k d lt. port_at topo which (get_or once k d) (are k d lt))

abbrev ArePorts : Option Topology → List Edge → List Edge → Type 0
ArePorts None sources sinks = Unit {0}
ArePorts (Some topo) sources sinks = All (IsPortOf topo) (places_of kind.Source (each_once [] sources)) × All (IsPortOf topo) (places_of kind.Sink (each_once [] sinks))

at_ports : (claimed : Option Topology) (sources sinks : List Edge) → All (IsClaimed claimed kind.Source) sources → All (IsClaimed claimed kind.Sink) sinks → ArePorts claimed sources sinks
at_ports None sources sinks some other = tt
at_ports (Some topo) sources sinks some other = (ports_at topo kind.Source sources some, ports_at topo kind.Sink sinks other)

has_ports : (claimed : Option Topology) (fed : FedStream) (sources sinks : List Edge) → fed.stream.sources ≡ places_of kind.Source (each_once [] sources) → fed.stream.sinks ≡ places_of kind.Sink (each_once [] sinks)
    → ArePorts claimed sources sinks → HasPorts claimed fed
has_ports None fed sources sinks one other are = tt
has_ports (Some topo) fed sources sinks one other are = (subst (All (IsPortOf topo)) (sym one) are.0, subst (All (IsPortOf topo)) (sym other) are.1)

-- ---- the whole
some_count : (counts : List ℕ) → is_none (slice_get counts 0) ≡ false → All IsCount counts → IsCount (unwrap_or (slice_get counts 0) 0)
some_count [] none all = absurd (cc none)
some_count (many ∷ counts) none all = all 0 many (omega arith)

same_count : (a b : ℕ) → ltb a b ≡ false → ltb b a ≡ false → a ≡ b
same_count a b one other = let low = ltb-false a b one in let high = ltb-false b a other in omega (arith, low, high)

not_both : (b test : Bool) → (b && test) ≡ false → b ≡ true → test ≡ false
not_both true test e is = e
not_both false test e is = absurd (cc is)

enough : (claimed : Option Topology) (s : Stream) (feeds : List (ℕ × List ℕ)) (n : ℕ) → length s.sources ≡ n → (are_fed claimed feeds && has_fewer s feeds) ≡ false → (are_fed claimed feeds && has_more s feeds) ≡ false
    → HasWords claimed (record { stream = s; words = words_of_all feeds n })
enough claimed s feeds n long fewer more = by claimed fewer more where
  all_there : has_fewer s feeds ≡ false → has_more s feeds ≡ false → length (words_of_all feeds n) ≡ word_count s
  all_there few many =
      words_long feeds s n (λ q lt. same_count (length (words_to feeds q)) (s.count * width s q)
      (range_false (λ r. ltb (length (words_to feeds r)) (s.count * width s r)) (length s.sources) q few (omega (arith, lt, long)))
      (range_false (λ r. ltb (s.count * width s r) (length (words_to feeds r))) (length s.sources) q many (omega (arith, lt, long))))
      ∙ ap (first s) (sym long)

  by : (o : Option Topology) → (are_fed o feeds && has_fewer s feeds) ≡ false → (are_fed o feeds && has_more s feeds) ≡ false → HasWords o (record { stream = s; words = words_of_all feeds n })
  by None few many = all_there few many
  by (Some topo) few many =
      ⊎_elim
      (λ (fed : ltb 0 (length feeds) ≡ true). inl (all_there (not_both (ltb 0 (length feeds)) (has_fewer s feeds) few fed) (not_both (ltb 0 (length feeds)) (has_more s feeds) many fed)))
      (λ (none : ltb 0 (length feeds) ≡ false). inr (nothing_fed n feeds none))
      (cases_Bool (ltb 0 (length feeds)))

pub ended_fed : (claimed : Option Topology) (all : List Statement) → AreSound claimed all all → end_fault claimed all ≡ None → IsFed claimed (fed_by all)
unfolding end_fault stream_by fed_by
ended_fed claimed all are none =
    let s = stream_by all in
    let feeds = feeds_in all in
    let fed = are_fed claimed feeds in
    let begun = none_if (is_none (size_in all) || is_none (count_in all)) Missing (whole_fault fed s feeds) none in
    let both = or_parts (is_none (size_in all)) (is_none (count_in all)) begun.0 in
    let full = none_if (eqb (length s.outs) 0 || (fed && has_fewer s feeds)) Missing (fault_if ((fed && has_more s feeds) || is_large s) OverLimit None) begun.1 in
    let given = or_parts (eqb (length s.outs) 0) (fed && has_fewer s feeds) full.0 in
    let within = none_if ((fed && has_more s feeds) || is_large s) OverLimit None full.1 in
    let over = or_parts (fed && has_more s feeds) (is_large s) within.0 in
    let nodes = or_parts (ltb MAX_NODES (length s.nodes)) (ltb MAX_ALL_WORDS (word_count s) || (has_full_sink s || ltb MAX_ALL_CAPACITIES (all_due_count s))) over.1 in
    let words = or_parts (ltb MAX_ALL_WORDS (word_count s)) (has_full_sink s || ltb MAX_ALL_CAPACITIES (all_due_count s)) nodes.1 in
    let sinks = or_parts (has_full_sink s) (ltb MAX_ALL_CAPACITIES (all_due_count s)) words.1 in
    let many = some_count (filter_map count_of all) both.1 are.counts in
    let sources_long : length s.sources ≡ length (sources_in all) = length-map (sources_in all) (place_of kind.Source) in
    let sinks_long : length s.sinks ≡ length (sinks_in all) = length-map (sinks_in all) (place_of kind.Sink) in
    let nodes_long : length s.nodes ≡ length (names_in all) = count (names_in all) (sources_in all) all in
    record {
      stream = record {
        size = some_size (filter_map size_of all) both.0 are.sizes;
        some_rows = many.0;
        most_rows = many.1;
        sources = placed kind.Source (size_in all) (filter_map source_of all) are.sources;
        sinks = placed kind.Sink (size_in all) (filter_map sink_of all) are.sinks;
        named = record {
          nodes = rw (sources_long, nodes_long) are.nodes;
          outs = rw (sinks_long, nodes_long) are.outs;
        };
        some_out = let some = eqb-false (length s.outs) 0 given.0 in omega (arith, some);
        few_nodes = ltb-false MAX_NODES (length s.nodes) nodes.0;
        few_words = ltb-false MAX_ALL_WORDS (word_count s) words.0;
        few_due = λ q lt. ltb-false MAX_CAPACITY (due_count s q) (range_false (λ r. ltb MAX_CAPACITY (due_count s r)) (length s.sinks) q sinks.0 lt);
        few_due_in_all = ltb-false MAX_ALL_CAPACITIES (all_due_count s) sinks.1;
      };
      words = words_small feeds (length (sources_in all)) are.words;
      enough = enough claimed s feeds (length (sources_in all)) sources_long given.1 over.0;
      ports = has_ports claimed (fed_by all) (filter_map source_of all) (filter_map sink_of all) refl refl (at_ports claimed (filter_map source_of all) (filter_map sink_of all) are.claimed_sources are.claimed_sinks);
    }

pub faultless_fed : (claimed : Option Topology) (lines : List (List (List ℕ))) → AreFaultless (fault_at claimed lines) (length lines + 1) → IsFed claimed (fed_by (said_in lines))
faultless_fed claimed lines faultless =
    ended_fed claimed (said_in lines) (all_sound claimed 0 lines (λ k below. faultless k (omega (arith, below)))) (sym (at_end claimed 0 lines) ∙ faultless (length lines) (omega arith))

pub meant_fed : (claimed : Option Topology) (lines : List (List (List ℕ))) (result : Result FedStream SetRefusal) → IfOk result (IsMeaning claimed lines) → IfOk result (IsFed claimed)
meant_fed claimed lines result = IfOk-weaker result (IsMeaning claimed lines) (IsFed claimed) (λ fed means. subst (IsFed claimed) (sym means.is) (faultless_fed claimed lines means.faultless))

-- ---- what is wrong at the end
pub no_size : (claimed : Option Topology) (all : List Statement) → size_in all ≡ None → end_fault claimed all ≡ Some Missing
unfolding end_fault
no_size claimed all none = rw none refl

pub no_count : (claimed : Option Topology) (all : List Statement) (size : ℕ × ℕ) → size_in all ≡ Some size → count_in all ≡ None → end_fault claimed all ≡ Some Missing
unfolding end_fault
no_count claimed all size some none = rw (some, none) refl
