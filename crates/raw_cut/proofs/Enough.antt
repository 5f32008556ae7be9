-- A set that is fed with rows is a set, and has room and steps enough, where it has them for as many rows.
use Rattle.std.proofs.Common.{◌≡◌, ℕ, zero, suc, ◌+◌, ◌-◌, ◌*◌, ◌/◌, ◌^◌, ◌<◌, ◌≤◌, ◌==◌, Bool, true, false, cond, List, [], ◌∷◌, length, Some, None, refl, sym, ap, ◌∙◌, subst, ⊎_elim, arith, le_trans, length-append, ne_eqb}
use Rattle.std.specs.Prelude.{slice_get, slice_index_or, sum_by, if◌then◌else◌}
use Rattle.std.specs.List.{All, filter_map, cons_option, range_with_len}
use Rattle.std.proofs.Math.Nat.{mul-le-mul_right, div-mul-le_self, suc-mul}
use Rattle.std.proofs.lemmas.Bool.{cases_lt}
use Rattle.std.proofs.lemmas.Nat.{le-div}
use Rattle.std.proofs.lemmas.Option.{none-some, same_Some, slice_get-get_or}
use Rattle.std.proofs.lemmas.List.Elements.{All-nil, All-cons, All-append}
use Rattle.std.proofs.lemmas.List.Sums.{sum_by-cons}
use Rattle.raw_grid.specs.declared.parts.PortKind.{PortKind}
use Rattle.raw_grid.specs.declared.parts.PortKind.TheVariants as kind
use Rattle.raw_grid.specs.declared.parts.PortPlace.{PortPlace}
use Rattle.raw_model.specs.declared.limits.TheConstants.{MAX_CAPACITY, MAX_ALL_WORDS, MAX_ALL_CAPACITIES}
use Rattle.raw_model.specs.Program.{ProgramSet, PortProgram, IsSet, IsPortProgram, IsOfKind}
use Rattle.raw_model.specs.Machine.{capacity_of}
use Rattle.raw_model.proofs.Fed.{all_at}
use Rattle.raw_stream.specs.declared.row_node.RowNode.{RowNode}
use Rattle.raw_stream.specs.declared.row_node.RowNode.TheVariants.{Input, Const, Apply, Pre}
use Rattle.raw_stream.specs.declared.out.StreamOut.{StreamOut}
use Rattle.raw_stream.specs.Streams.{Stream, IsOut, AreNamed, due_of, due_at}
use Rattle.raw_stream.specs.Unrolled.{takes, width}
use Rattle.raw_row_terms.specs.RowTerms.{AllWords}
use Rattle.raw_rows.specs.Given.{takes_words, part, given_by}
use Rattle.raw_rows.specs.Kernels.{AreRows, fed_by, fed_rows, LiveProof, IsEnough, IsLiveProof, kernels_in, EachNumberIsMet}
use Rattle.raw_cut.specs.Live.{IsMetFrom, all_width, HasPlaces, HasSteps}
use Rattle.raw_cut.proofs.Rooms.{room_is}

-- how many words a port gives of a row
one_given : (b : Bool) (w : ℕ) → length (cond b (w ∷ []) []) ≡ cond b 1 0
one_given true w = refl
one_given false w = refl

part_many : (q : ℕ) (nodes : List RowNode) (words : List ℕ) → length words ≡ sum_by takes_words nodes → length (part q nodes words) ≡ sum_by (takes q) nodes
part_many q [] words h = refl
part_many q (Input p ∷ nodes) [] h = absurd (omega (arith, h, sum_by-cons takes_words (Input p) nodes))
part_many q (Input p ∷ nodes) (w ∷ words) h =
    let rest : length words ≡ sum_by takes_words nodes = omega (arith, h, sum_by-cons takes_words (Input p) nodes) in
    length-append (if p == q then w ∷ [] else []) (part q nodes words)
    ∙ omega (arith, one_given (p == q) w, part_many q nodes words rest, sum_by-cons (takes q) (Input p) nodes)
part_many q (Const word ∷ nodes) words h =
    let rest : length words ≡ sum_by takes_words nodes = omega (arith, h, sum_by-cons takes_words (Const word) nodes) in
    omega (arith, part_many q nodes words rest, sum_by-cons (takes q) (Const word) nodes)
part_many q (Apply op a b ∷ nodes) words h =
    let rest : length words ≡ sum_by takes_words nodes = omega (arith, h, sum_by-cons takes_words (Apply op a b) nodes) in
    omega (arith, part_many q nodes words rest, sum_by-cons (takes q) (Apply op a b) nodes)
part_many q (Pre a word ∷ nodes) words h =
    let rest : length words ≡ sum_by takes_words nodes = omega (arith, h, sum_by-cons takes_words (Pre a word) nodes) in
    omega (arith, part_many q nodes words rest, sum_by-cons (takes q) (Pre a word) nodes)

-- and they are words
one_small : (b : Bool) (w : ℕ) → w < 2 ^ 32 → All (λ (x : ℕ). x < 2 ^ 32) (cond b (w ∷ []) [])
one_small true w h = All-cons (λ (x : ℕ). x < 2 ^ 32) w [] h (All-nil (λ (x : ℕ). x < 2 ^ 32))
one_small false w h = All-nil (λ (x : ℕ). x < 2 ^ 32)

none_small : (b : Bool) → All (λ (x : ℕ). x < 2 ^ 32) (cond b [] [])
none_small true = All-nil (λ (x : ℕ). x < 2 ^ 32)
none_small false = All-nil (λ (x : ℕ). x < 2 ^ 32)

part_small : (q : ℕ) (nodes : List RowNode) (words : List ℕ) → AllWords words → All (λ (x : ℕ). x < 2 ^ 32) (part q nodes words)
part_small q [] words h = All-nil (λ (x : ℕ). x < 2 ^ 32)
part_small q (Input p ∷ nodes) [] h =
    All-append (λ (x : ℕ). x < 2 ^ 32) (if p == q then [] else []) (part q nodes []) (none_small (p == q)) (part_small q nodes [] h)
part_small q (Input p ∷ nodes) (w ∷ words) h =
    All-append (λ (x : ℕ). x < 2 ^ 32) (if p == q then w ∷ [] else []) (part q nodes words) (one_small (p == q) w (h 0 w refl)) (part_small q nodes words (λ i x e. h (suc i) x e))
part_small q (Const word ∷ nodes) words h = part_small q nodes words h
part_small q (Apply op a b ∷ nodes) words h = part_small q nodes words h
part_small q (Pre a word ∷ nodes) words h = part_small q nodes words h

-- a port of the set with other words
record FedPort (s : Stream) (rows : List (List ℕ)) (ports : List PortProgram) (k i : ℕ) (port : PortProgram) : Type 0 where
  pub old : PortProgram
  pub at : slice_get ports i ≡ Some old
  pub capacity : port.capacity ≡ old.capacity
  pub words : port.words ≡ given_by s (k + i) rows

module _ (s : Stream) where
  rest_rows : (words : List ℕ) (rows : List (List ℕ)) → AreRows s (words ∷ rows) → AreRows s rows
  rest_rows words rows are i ws e = are (suc i) ws e

  given_many : (q : ℕ) (rows : List (List ℕ)) → AreRows s rows → length (given_by s q rows) ≡ length rows * width s q
  given_many q [] are = omega arith
  given_many q (words ∷ rows) are =
      length-append (part q s.nodes words) (given_by s q rows)
      ∙ ap (λ (n : ℕ). n + length (given_by s q rows)) (part_many q s.nodes words (are 0 words refl).many)
      ∙ ap (λ (n : ℕ). width s q + n) (given_many q rows (rest_rows words rows are))
      ∙ omega (arith, suc-mul (length rows) (width s q))

  given_small : (q : ℕ) (rows : List (List ℕ)) → AreRows s rows → All (λ (x : ℕ). x < 2 ^ 32) (given_by s q rows)
  given_small q [] are = All-nil (λ (x : ℕ). x < 2 ^ 32)
  given_small q (words ∷ rows) are =
      All-append (λ (x : ℕ). x < 2 ^ 32) (part q s.nodes words) (given_by s q rows) (part_small q s.nodes words (are 0 words refl).small) (given_small q rows (rest_rows words rows are))

  -- the ports with these words
  module _ (rows : List (List ℕ)) (are : AreRows s rows) where
    fed_count : (q : ℕ) (ports : List PortProgram) → length (fed_by s rows q ports) ≡ length ports
    fed_count q [] = refl
    fed_count q (port ∷ ports) = ap suc (fed_count (q + 1) ports)

    fed_at : (ports : List PortProgram) (k i : ℕ) (port : PortProgram) → slice_get (fed_by s rows k ports) i ≡ Some port → FedPort s rows ports k i port
    fed_at [] k i port e = absurd (none-some port e)
    fed_at (old ∷ ports) k zero port e =
        let none : k ≡ k + 0 = omega arith in
        subst (λ (x : PortProgram). FedPort s rows (old ∷ ports) k 0 x) (same_Some (record old { words = given_by s k rows }) port e)
        (record { old = old; at = refl; capacity = refl; words = ap (λ (q : ℕ). given_by s q rows) none })
    fed_at (old ∷ ports) k (suc i) port e =
        let more = fed_at ports (k + 1) i port e in
        let same : k + 1 + i ≡ k + suc i = omega arith in
        record { old = more.old; at = more.at; capacity = more.capacity; words = more.words ∙ ap (λ (q : ℕ). given_by s q rows) same }

    fed_words : (ports : List PortProgram) (k : ℕ) → sum_by (λ (port : PortProgram). length port.words) (fed_by s rows k ports) ≡ length rows * sum_by (width s) (range_with_len k (length ports))
    fed_words [] k = omega arith
    fed_words (port ∷ ports) k =
        let first : PortProgram = record port { words = given_by s k rows } in
        let rest : ℕ = sum_by (width s) (range_with_len (k + 1) (length ports)) in
        let here : sum_by (width s) (range_with_len k (length (port ∷ ports))) ≡ width s k + rest = sum_by-cons (width s) k (range_with_len (k + 1) (length ports)) in
        sum_by-cons (λ (x : PortProgram). length x.words) first (fed_by s rows (k + 1) ports)
        ∙ ap (λ (n : ℕ). n + sum_by (λ (x : PortProgram). length x.words) (fed_by s rows (k + 1) ports)) (given_many k rows are)
        ∙ ap (λ (n : ℕ). length rows * width s k + n) (fed_words ports (k + 1))
        ∙ sum_of (length rows) (width s k) rest
        ∙ ap (λ (n : ℕ). length rows * n) (sym here)
      where
        sum_of : (n a b : ℕ) → n * a + n * b ≡ n * (a + b)
        sum_of zero a b = omega arith
        sum_of (suc n) a b = let more = sum_of n a b in omega (arith, more, suc-mul n a, suc-mul n b, suc-mul n (a + b))

    fed_room : (ports : List PortProgram) (k : ℕ) → sum_by (λ (port : PortProgram). port.capacity) (fed_by s rows k ports) ≡ sum_by (λ (port : PortProgram). port.capacity) ports
    fed_room [] k = refl
    fed_room (port ∷ ports) k =
        let first : PortProgram = record port { words = given_by s k rows } in
        let one = sum_by-cons (λ (x : PortProgram). x.capacity) first (fed_by s rows (k + 1) ports) in
        let other = sum_by-cons (λ (x : PortProgram). x.capacity) port ports in
        omega (arith, one, other, fed_room ports (k + 1))

    of_kind : (k : PortKind) (port old : PortProgram) → port.capacity ≡ old.capacity → (k ≡ kind.Sink → length port.words ≡ 0) → IsOfKind k old → IsOfKind k port
    of_kind kind.Source port old same none h = same ∙ h
    of_kind kind.Sink port old same none h = none refl

    pub fed_is_set : (set : ProgramSet) (most : ℕ) → IsSet set → HasPlaces set s most → length rows ≤ most → IsSet (fed_rows set s rows)
    fed_is_set set most is places few = record {
      topology = is.topology;
      some_steps = is.some_steps;
      few_steps = is.few_steps;
      some_depth = is.some_depth;
      small_depth = is.small_depth;
      each_tile = is.each_tile;
      tile_programs = is.tile_programs;
      wires = is.wires;
      shows = is.shows;
      each_port = fed_count 0 set.ports ∙ is.each_port;
      port_programs = λ i d l.
          let port : PortProgram = slice_index_or (fed_by s rows 0 set.ports) i d in
          let at : FedPort s rows set.ports 0 i port = fed_at set.ports 0 i port (slice_get-get_or (fed_by s rows 0 set.ports) i d l) in
          let old : IsPortProgram at.old = all_at IsPortProgram set.ports is.port_programs i at.old at.at in
          record { words = subst (All (λ (x : ℕ). x < 2 ^ 32)) (sym at.words) (given_small (0 + i) rows are); capacity = subst (λ n. n ≤ MAX_CAPACITY) (sym at.capacity) old.capacity };
      port_kinds = λ i place port e f.
          let at : FedPort s rows set.ports 0 i port = fed_at set.ports 0 i port f in
          of_kind place.kind port at.old at.capacity
          (λ sink.
          let same : 0 + i ≡ i = omega arith in
          ap length at.words ∙ given_many (0 + i) rows are ∙ ap (λ (n : ℕ). length rows * n) (ap (width s) same ∙ places.sinks i place e sink) ∙ omega arith)
          (is.port_kinds i place at.old e at.at);
      totals = record {
        instructions = is.totals.instructions;
        switch_instructions = is.totals.switch_instructions;
        cells = is.totals.cells;
        misses = is.totals.misses;
        shows = is.totals.shows;
        shown = is.totals.shown;
        words = subst (λ n. n ≤ MAX_ALL_WORDS) (sym (fed_words set.ports 0)) (le_trans (mul-le-mul_right (all_width set s) few) places.words);
        capacities = subst (λ n. n ≤ MAX_ALL_CAPACITIES) (sym (fed_room set.ports 0)) is.totals.capacities;
      };
    }

    fewer_kernels : (w : LiveProof) (m most : ℕ) → 1 ≤ w.rows → m ≤ most → kernels_in w m ≤ kernels_in w most
    fewer_kernels w m most some few =
        let a : ℕ = m - (w.first_rows + w.cut.window) in
        let b : ℕ = most - (w.first_rows + w.cut.window) in
        let less : a ≤ b = omega (arith, few) in
        le-div (a / w.rows) b w.rows (omega (arith, some)) (le_trans (div-mul-le_self a w.rows) less)

    pub is_enough : (set : ProgramSet) (w : LiveProof) (most : ℕ) → 1 ≤ w.rows → HasPlaces set s most → HasSteps set.limit w most → length rows ≤ most → IsEnough set s w (kernels_in w (length rows)) rows
    is_enough set w most some places steps few = record {
      room = λ q. le_trans (subst (λ (n : ℕ). n ≤ most * length (due_at s q)) (sym (room_is s q rows)) (mul-le-mul_right (length (due_at s q)) few)) (places.room q);
      steps = omega (arith, steps, mul-le-mul_right w.limit (fewer_kernels w (length rows) most some few));
    }

-- a set has words and room for fewer rows too
pub places_less : (set : ProgramSet) (s : Stream) (many few : ℕ) → few ≤ many → HasPlaces set s many → HasPlaces set s few
places_less set s many few less places = record {
  words = le_trans (mul-le-mul_right (all_width set s) less) places.words;
  sinks = places.sinks;
  room = λ q. le_trans (mul-le-mul_right (length (due_at s q)) less) (places.room q);
}

-- a port that a stream has not is due nothing
pub none_due : (s : Stream) (q : ℕ) → AreNamed s → length s.sinks ≤ q → length (due_at s q) ≡ 0
none_due s q named past = ap length (none s.outs named.outs) where
  none : (outs : List StreamOut) → All (IsOut (length s.sinks) (length s.nodes)) outs → filter_map (due_of q) outs ≡ []
  none [] all = refl
  none (out ∷ outs) all =
      let is : IsOut (length s.sinks) (length s.nodes) out = all 0 out (omega arith) in
      let other : (out.port == q) ≡ false = ne_eqb out.port q (λ (e : out.port ≡ q). omega (arith, e, is.port, past)) in
      ap (λ b. cons_option (cond b (Some out.node) None) (filter_map (due_of q) outs)) other ∙ none outs (λ k d lt. all (suc k) d (omega (arith, lt)))

-- what is found port by port
pub places_of : (set : ProgramSet) (s : Stream) (most total : ℕ) → IsSet set → AreNamed s → length s.sinks ≤ length set.ports → total ≡ sum_by (width s) (range_with_len 0 (length set.topo.places)) → most * total ≤ MAX_ALL_WORDS
    → ((q : ℕ) (place : PortPlace) → slice_get set.topo.places q ≡ Some place → place.kind ≡ kind.Sink → width s q ≡ 0) → ((q : ℕ) → q < length set.ports → most * length (due_at s q) ≤ capacity_of (slice_get set.ports q))
    → HasPlaces set s most
places_of set s most total is named few total_is words sinks room = record {
  words = subst (λ (n : ℕ). most * n ≤ MAX_ALL_WORDS) (total_is ∙ ap (λ (n : ℕ). sum_by (width s) (range_with_len 0 n)) (sym is.each_port)) words;
  sinks = sinks;
  room = λ q.
      ⊎_elim (λ (below : q < length set.ports). room q below)
      (λ (past : length set.ports ≤ q).
      let none : length (due_at s q) ≡ 0 = none_due s q named (omega (arith, past, few)) in
      subst (λ (n : ℕ). most * n ≤ capacity_of (slice_get set.ports q)) (sym none) (omega arith))
      (cases_lt q (length set.ports));
}

-- so a proof by rows is one for all of these numbers
pub met_from : EachNumberIsMet → (set : ProgramSet) (s : Stream) (w : LiveProof) (most : ℕ) → IsSet set → AreNamed s → length s.sources ≤ length set.ports → 1 ≤ w.rows → IsLiveProof set s w
    → HasPlaces set s most → HasSteps set.limit w most → IsMetFrom set s (w.first_rows + w.cut.window) most w.lacks
met_from law set s w most is named ports some live places steps rows least few are =
    law set s w is named ports some live rows least are (fed_is_set s rows are set most is places few) (is_enough s rows are set w most some places steps few)
