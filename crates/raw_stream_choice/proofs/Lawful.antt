-- A set with the grid of a stream keeps all that sets keep, where its ports and its programs do; and the ports of a stream with words do.
use Rattle.std.proofs.Common.{◌≡◌, ℕ, zero, suc, ◌+◌, ◌*◌, ◌^◌, ◌<◌, ◌≤◌, List, [], ◌∷◌, ◌++◌, length, get_or, map, take, drop, refl, sym, ap, ◌∙◌, subst, arith, sum_by, min}
use Rattle.std.specs.List.{All, range_with_len}
use Rattle.std.proofs.lemmas.List.{length-append, length-take}
use Rattle.std.proofs.lemmas.List.Elements.{All-nil, All-append, All-map, All-take, All-drop}
use Rattle.std.proofs.lemmas.List.FromFn.{length-range_with_len, get_or-range_with_len, length-map-range_with_len}
use Rattle.std.proofs.lemmas.List.Sums.{sum_by-cons, sum_by-append}
use Rattle.std.proofs.lemmas.Option.{get_or_from_slice_get, slice_get_within}
use Rattle.raw_grid.specs.declared.parts.PortKind.{PortKind}
use Rattle.raw_grid.specs.declared.parts.PortKind.TheVariants.{Source, Sink}
use Rattle.raw_grid.specs.declared.parts.PortPlace.{PortPlace}
use Rattle.raw_grid.specs.Topology.{Topology, IsTopology, tile_count}
use Rattle.raw_model.specs.declared.limits.TheConstants.{DEFAULT_DEPTH, MAX_STEPS}
use Rattle.raw_model.specs.declared.program.Show.{Show}
use Rattle.raw_model.specs.Program.{ProgramSet, TileProgram, IsTileProgram, HaveWires, PortProgram, IsPortProgram, IsOfKind, AreOfKinds, IsShow, IsSet}
use Rattle.raw_codegen.specs.Parts.{Part, script_program, script_programs}
use Rattle.raw_codegen.specs.Lawful.{AreParts}
use Rattle.raw_codegen.specs.Limits.{AreShort}
use Rattle.raw_stream.specs.Streams.{Stream}
use Rattle.raw_stream.specs.Unrolled.{width, first, word_count}
use Rattle.raw_stream.specs.Kept.{due_count, all_due_count, IsStream}
use Rattle.raw_stream_choice.specs.StreamSets.{stream_topo, set_with, ArePortsFor, source_words, source_program, sink_program, stream_port_programs}

-- what is known of lawful parts
pub record PartsLaws : Type 0 where
  pub programs : (topo : Topology) (n : ℕ) (parts : List Part) → AreParts topo parts → AreShort (script_programs n parts) → All IsTileProgram (script_programs n parts)
  pub wires : (topo : Topology) (n : ℕ) (parts : List Part) → AreParts topo parts → HaveWires topo (script_programs n parts)
  pub cells : (n : ℕ) (parts : List Part) → sum_by (λ (tile : TileProgram). length tile.cells) (script_programs n parts) ≡ 0
  pub misses : (n : ℕ) (parts : List Part) → sum_by (λ (tile : TileProgram). length tile.misses) (script_programs n parts) ≡ 0

-- ---- sums over ports
abbrev words_in : PortProgram → ℕ
words_in port = length port.words

abbrev room_in : PortProgram → ℕ
room_in port = port.capacity

few_taken : (n : ℕ) (xs : List ℕ) → length (take n xs) ≤ n
few_taken n xs = by (length-take n xs) where
  by : length (take n xs) ≡ min n (length xs) → length (take n xs) ≤ n
  by e = omega (arith, e)

module _ (s : Stream) (words : List ℕ) where
  source_sum : (m q : ℕ) → first s q + sum_by words_in (map (source_program s words) (range_with_len q m)) ≤ first s (q + m)
  source_sum zero q =
      let same : q + 0 ≡ q = omega arith in
      rw same (omega arith)
  source_sum (suc m) q =
      let next : q + 1 ≡ suc q = omega arith in
      let later : q + suc m ≡ suc q + m = omega arith in
      let more = source_sum m (suc q) in
      let here : length (source_words s words q) ≤ s.count * width s q = few_taken (s.count * width s q) (drop (first s q) words) in
      let cons = sum_by-cons words_in (source_program s words q) (map (source_program s words) (range_with_len (q + 1) m)) in
      rw later (last (first s q) (s.count * width s q) _ _ _ _ here cons (subst (λ k. first s (suc q) + sum_by words_in (map (source_program s words) (range_with_len k m)) ≤ first s (suc q + m)) (sym next) more))
    where
      last : (a b c d e f : ℕ) → c ≤ b → d ≡ c + e → (a + b) + e ≤ f → a + d ≤ f
      last a b c d e f x y z = omega (arith, x, y, z)

  sinks_no_words : (qs : List ℕ) → sum_by words_in (map (sink_program s) qs) ≡ 0
  sinks_no_words [] = refl
  sinks_no_words (q ∷ qs) = let rest = sinks_no_words qs in sum_by-cons words_in (sink_program s q) (map (sink_program s) qs) ∙ omega (arith, rest)

  sources_no_room : (qs : List ℕ) → sum_by room_in (map (source_program s words) qs) ≡ 0
  sources_no_room [] = refl
  sources_no_room (q ∷ qs) = let rest = sources_no_room qs in sum_by-cons room_in (source_program s words q) (map (source_program s words) qs) ∙ omega (arith, rest)

  sinks_room : (qs : List ℕ) → sum_by room_in (map (sink_program s) qs) ≡ sum_by (due_count s) qs
  sinks_room [] = refl
  sinks_room (q ∷ qs) =
      sum_by-cons room_in (sink_program s q) (map (sink_program s) qs)
      ∙ ap (λ n. due_count s q + n) (sinks_room qs)
      ∙ sym (sum_by-cons (due_count s) q qs)

  all_words_few : sum_by words_in (stream_port_programs s words) ≤ word_count s
  all_words_few =
      let sources = map (source_program s words) (range_with_len 0 (length s.sources)) in
      let sinks = map (sink_program s) (range_with_len 0 (length s.sinks)) in
      let both = sum_by-append words_in sources sinks in
      let none = sinks_no_words (range_with_len 0 (length s.sinks)) in
      let some = source_sum (length s.sources) 0 in
      let same : 0 + length s.sources ≡ length s.sources = omega arith in
      let few : first s 0 + sum_by words_in sources ≤ first s (length s.sources) = subst (λ k. first s 0 + sum_by words_in sources ≤ first s k) same some in
      omega (arith, both, none, few)

  all_room : sum_by room_in (stream_port_programs s words) ≡ all_due_count s
  all_room =
      let sources = map (source_program s words) (range_with_len 0 (length s.sources)) in
      let sinks = map (sink_program s) (range_with_len 0 (length s.sinks)) in
      let both = sum_by-append room_in sources sinks in
      let none = sources_no_room (range_with_len 0 (length s.sources)) in
      let some = sinks_room (range_with_len 0 (length s.sinks)) in
      omega (arith, both, none, some)

  -- ---- each port
  module _ (is : IsStream s) (all : All (λ word. word < 2 ^ 32) words) where
    source_lawful : (q : ℕ) → IsPortProgram (source_program s words q)
    source_lawful q = record {
      words = All-take (λ word. word < 2 ^ 32) (s.count * width s q) (drop (first s q) words) (All-drop (λ word. word < 2 ^ 32) (first s q) words all);
      capacity = omega arith;
    }

    sink_lawful : (q : ℕ) → q < length s.sinks → IsPortProgram (sink_program s q)
    sink_lawful q lt = record { words = All-nil (λ word. word < 2 ^ 32); capacity = is.few_due q lt }

    ports_lawful : All IsPortProgram (stream_port_programs s words)
    ports_lawful =
        All-append IsPortProgram (map (source_program s words) (range_with_len 0 (length s.sources))) (map (sink_program s) (range_with_len 0 (length s.sinks)))
        (All-map IsPortProgram (source_program s words) (range_with_len 0 (length s.sources)) (λ k d lt. source_lawful (get_or (range_with_len 0 (length s.sources)) k d)))
        (All-map IsPortProgram (sink_program s) (range_with_len 0 (length s.sinks)) sinks)
      where
        sinks : All (λ q. IsPortProgram (sink_program s q)) (range_with_len 0 (length s.sinks))
        sinks k d lt =
            let few = length-range_with_len 0 (length s.sinks) in
            let at = get_or-range_with_len 0 (length s.sinks) k d (omega (arith, lt, few)) in
            sink_lawful (get_or (range_with_len 0 (length s.sinks)) k d) (omega (arith, lt, few, at))

    -- ---- kinds
    kinds_in : (places : List PortPlace) (ports : List PortProgram) (kind : PortKind) → All (λ (place : PortPlace). place.kind ≡ kind) places
        → All (IsOfKind kind) ports → AreOfKinds places ports
    kinds_in places ports kind are of i place port e f =
        let here : get_or places i place ≡ place = get_or_from_slice_get places i place place e in
        let there : get_or ports i port ≡ port = get_or_from_slice_get ports i port port f in
        let same : place.kind ≡ kind = sym (ap (λ (p : PortPlace). p.kind) here) ∙ are i place (slice_get_within places i place e) in
        subst (λ k. IsOfKind k port) (sym same) (subst (λ (p : PortProgram). IsOfKind kind p) there (of i port (slice_get_within ports i port f)))

    kinds_append : (xs ys : List PortPlace) (ps qs : List PortProgram) → length xs ≡ length ps → AreOfKinds xs ps → AreOfKinds ys qs → AreOfKinds (xs ++ ys) (ps ++ qs)
    kinds_append [] ys [] qs long a b i place port e f = b i place port e f
    kinds_append [] ys (p ∷ ps) qs long a b i place port e f = absurd (omega (arith, long))
    kinds_append (x ∷ xs) ys [] qs long a b i place port e f = absurd (omega (arith, long))
    kinds_append (x ∷ xs) ys (p ∷ ps) qs long a b zero place port e f = a zero place port e f
    kinds_append (x ∷ xs) ys (p ∷ ps) qs long a b (suc i) place port e f =
        kinds_append xs ys ps qs (omega (arith, long)) (λ j other program g h. a (suc j) other program g h) b i place port e f

    kinds_lawful : AreOfKinds (s.sources ++ s.sinks) (stream_port_programs s words)
    kinds_lawful =
        kinds_append s.sources s.sinks (map (source_program s words) (range_with_len 0 (length s.sources))) (map (sink_program s) (range_with_len 0 (length s.sinks)))
        (sym (length-map-range_with_len (source_program s words) 0 (length s.sources)))
        (kinds_in s.sources (map (source_program s words) (range_with_len 0 (length s.sources))) Source is.sources.kinds
        (All-map (IsOfKind Source) (source_program s words) (range_with_len 0 (length s.sources)) (λ k d lt. refl)))
        (kinds_in s.sinks (map (sink_program s) (range_with_len 0 (length s.sinks))) Sink is.sinks.kinds
        (All-map (IsOfKind Sink) (sink_program s) (range_with_len 0 (length s.sinks)) (λ k d lt. refl)))

    each_port : length (stream_port_programs s words) ≡ length (s.sources ++ s.sinks)
    each_port =
        let sources = length-map-range_with_len (source_program s words) 0 (length s.sources) in
        let sinks = length-map-range_with_len (sink_program s) 0 (length s.sinks) in
        let both = length-append (map (source_program s words) (range_with_len 0 (length s.sources))) (map (sink_program s) (range_with_len 0 (length s.sinks))) in
        let places = length-append s.sources s.sinks in
        omega (arith, sources, sinks, both, places)

    stream_ports_lawful : ArePortsFor s (stream_port_programs s words)
    stream_ports_lawful = record {
      each = each_port;
      programs = ports_lawful;
      kinds = kinds_lawful;
      words = let a = all_words_few in let b = is.few_words in omega (arith, a, b);
      room = let a = all_room in let b = is.few_due_in_all in omega (arith, a, b);
    }

pub are_stream_ports : (s : Stream) (words : List ℕ) (ports : List PortProgram) → IsStream s → All (λ word. word < 2 ^ 32) words → ports ≡ stream_port_programs s words
    → ArePortsFor s ports
are_stream_ports s words ports is all same = subst (ArePortsFor s) (sym same) (stream_ports_lawful s words is all)

-- ---- a set with the grid of a stream and such ports
module _ (s : Stream) (ports : List PortProgram) (are : ArePortsFor s ports) where
  abbrev count : ℕ
  count = tile_count (stream_topo s)

  is_set_with : PartsLaws → IsTopology (stream_topo s) → (parts : List Part) → AreParts (stream_topo s) parts → AreShort (script_programs count parts)
      → IsSet (set_with s ports MAX_STEPS (script_programs count parts))
  is_set_with laws topology parts lawful short = record {
    topology = topology;
    some_steps = omega arith;
    few_steps = omega arith;
    some_depth = omega arith;
    small_depth = omega arith;
    each_port = are.each;
    each_tile = length-map-range_with_len (script_program parts) 0 count;
    port_programs = are.programs;
    port_kinds = are.kinds;
    tile_programs = laws.programs (stream_topo s) count parts lawful short;
    wires = laws.wires (stream_topo s) count parts lawful;
    shows = All-nil (IsShow (stream_topo s));
    totals = record {
      instructions = short.all_code;
      switch_instructions = short.all_switch;
      cells = let a = laws.cells count parts in omega arith;
      misses = let a = laws.misses count parts in omega arith;
      words = are.words;
      capacities = are.room;
      shows = omega arith;
      shown = omega arith;
    };
  }

  -- the set as it is made
  pub idle_is_set : PartsLaws → (topo : Topology) (tiles : List TileProgram) (shows : List Show)
      → topo ≡ stream_topo s → IsTopology topo → tiles ≡ script_programs (tile_count topo) [] → AreShort tiles → shows ≡ []
      → IsSet (record { topo = topo; limit = MAX_STEPS; depth = DEFAULT_DEPTH; ports = ports; tiles = tiles; shows = shows })
  idle_is_set laws topo tiles shows a valid c short d =
      let grid : tiles ≡ script_programs count [] = c ∙ ap (λ (t : Topology). script_programs (tile_count t) []) a in
      let same : ◌≡◌ {A = ProgramSet} (record { topo = topo; limit = MAX_STEPS; depth = DEFAULT_DEPTH; ports = ports; tiles = tiles; shows = shows })
      (set_with s ports MAX_STEPS (script_programs count [])) =
      λ i. record { topo = a i; limit = MAX_STEPS; depth = DEFAULT_DEPTH; ports = ports; tiles = grid i; shows = d i } in
      subst (λ (set : ProgramSet). IsSet set) (sym same)
      (is_set_with laws (subst (λ (t : Topology). IsTopology t) a valid) [] tt (subst (λ (ts : List TileProgram). AreShort ts) grid short))
