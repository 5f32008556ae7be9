-- A stream that is unrolled node by node, with one more, and with a row that is done.
use Rattle.std.proofs.Common.{◌≡◌, ◌≢◌, ℕ, zero, suc, ◌+◌, ◌-◌, ◌*◌, ◌^◌, ◌<◌, ◌≤◌, Bool, true, false, cond, eqb, List, [], ◌∷◌, ◌++◌, length, get_or, map, take, set, replicate, Some, refl, sym, ap, ◌∙◌, subst, arith, ⊎_elim, append_assoc, append-nil}
use Rattle.std.specs.Prelude.{slice_get, slice_index, sum_by}
use Rattle.std.specs.List.{flat_map, range_with_len}
use Rattle.std.proofs.lemmas.Bool.{eqb-true, eqb-false, eq-eqb, cases_lt}
use Rattle.std.proofs.lemmas.Nat.{mul-add-lt}
use Rattle.std.proofs.lemmas.List.{length-append, length-map, length-set, length-take-le, map-append, take_more, take_all, length_push, get_or_push, get_or_append_left, get_or-set_same, get_or-set_other, flat_map_more}
use Rattle.std.proofs.lemmas.List.Sums.{sum_by_push}
use Rattle.std.proofs.lemmas.Option.{slice_get_within, get_or_from_slice_get}
use Rattle.raw_flow.specs.declared.node.FlowOp.{FlowOp}
use Rattle.raw_flow.specs.declared.node.Node.{Node}
use Rattle.raw_flow.specs.declared.node.Node.TheVariants as flow_node
use Rattle.raw_flow.specs.declared.limits.TheConstants.{MAX_NODES}
use Rattle.raw_stream.specs.declared.row_node.RowNode.{RowNode}
use Rattle.raw_stream.specs.declared.row_node.RowNode.TheVariants.{Input, Const, Apply, Pre}
use Rattle.raw_stream.specs.Streams.{Stream}
use Rattle.raw_stream.specs.Unrolled.{takes, width, rank, first, word_count, word_place, own, first_place, later_place, place, node_at, row_nodes, unrolled}
use Rattle.raw_stream.proofs.Sums.{range_push}
use Rattle.raw_stream.proofs.Places.{many_inputs, place_const, place_apply}
use Rattle.raw_stream.proofs.Within.{rows_long}
use Rattle.raw_unroll.specs.declared.unrolling.Unrolling.{Unrolling}
use Rattle.raw_unroll.specs.Known.{Fits, IsUnrolled, Takes, IsNext, AreThere, pre_place, node_of, ArePlaces}
use Rattle.raw_unroll.proofs.Begins.{firsts_long, firsts_at}

-- ---- the places of the next words
module _ (s : Stream) where
  next_place : (r q v : ℕ) (node : RowNode) → slice_get s.nodes v ≡ Some node → word_place s r q (v + 1) ≡ word_place s r q v + takes q node
  next_place r q v node e =
      let within = slice_get_within s.nodes v node e in
      let there : get_or s.nodes v node ≡ node = get_or_from_slice_get s.nodes v node node e in
      let more : rank s q (v + 1) ≡ rank s q v + takes q node = ap (sum_by (takes q)) (take_more s.nodes v node within) ∙ sum_by_push (takes q) (take v s.nodes) (get_or s.nodes v node) ∙ ap (λ n. rank s q v + takes q n) there in
      omega (arith, more)

  pub row_done_place : (r q : ℕ) → word_place s r q (length s.nodes) ≡ word_place s (r + 1) q 0
  row_done_place r q =
      let all : rank s q (length s.nodes) ≡ width s q = ap (sum_by (takes q)) (take_all (length s.nodes) s.nodes (omega arith)) in
      let none : rank s q 0 ≡ 0 = refl in
      let more : (r + 1) * width s q ≡ r * width s q + width s q = grind arith in
      omega (arith, all, none, more)

  pub first_word : (q : ℕ) → word_place s 0 q 0 ≡ first s q
  first_word q = let none : rank s q 0 ≡ 0 = refl in omega (arith, none)

  abbrev AreNext : ℕ → ℕ → List ℕ → Type 0
  AreNext r v next = (q : ℕ) → q < length s.sources → slice_index next q ≡ word_place s r q v

  -- an input takes the next word of its source
  pub input_next : (r v p : ℕ) (next : List ℕ) → length next ≡ length s.sources → p < length s.sources → slice_get s.nodes v ≡ Some (Input p) → AreNext r v next
      → AreNext r (v + 1) (set next p (slice_index next p + 1))
  input_next r v p next many within e are q below = by (eqb p q) refl where
    by : (b : Bool) → eqb p q ≡ b → slice_index (set next p (slice_index next p + 1)) q ≡ word_place s r q (v + 1)
    by true same =
        let one : takes p (Input p) ≡ 1 = ap (λ b. cond b 1 0) (eq-eqb p p refl) in
        let here : slice_index (set next p (slice_index next p + 1)) p ≡ word_place s r p (v + 1) =
        get_or-set_same next p (slice_index next p + 1) 0 (omega (arith, within, many)) ∙ ap (λ n. n + 1) (are p within) ∙ ap (λ n. word_place s r p v + n) (sym one) ∙ sym (next_place r p v (Input p) e) in
        subst (λ j. slice_index (set next p (slice_index next p + 1)) j ≡ word_place s r j (v + 1)) (eqb-true p q same) here
    by false other =
        let none : takes q (Input p) ≡ 0 = ap (λ b. cond b 1 0) other in
        get_or-set_other next p q (slice_index next p + 1) 0 (λ same. eqb-false p q other (sym same)) ∙ are q below ∙ omega (arith, none, next_place r q v (Input p) e)

  pub other_next : (r v : ℕ) (node : RowNode) (next : List ℕ) → slice_get s.nodes v ≡ Some node → ((q : ℕ) → takes q node ≡ 0) → AreNext r v next → AreNext r (v + 1) next
  other_next r v node next e none are q below = are q below ∙ omega (arith, none q, next_place r q v node e)

  -- ---- where values are found
  place_first : (v a word : ℕ) → slice_get s.nodes v ≡ Some (Pre a word) → place s 0 v ≡ own s 0 v
  place_first v a word e = ap (first_place s v) e

  place_later : (r v a word : ℕ) → 0 < r → slice_get s.nodes v ≡ Some (Pre a word) → place s r v ≡ place s (r - 1) a
  place_later zero v a word some e = absurd (omega (arith, some))
  place_later (suc r) v a word some e = let before : suc r - 1 ≡ r = omega arith in rw before (ap (later_place s (suc r) (λ u. place s r u) v) e)

-- the row before
pub row_before : (r n : ℕ) → 0 < r → (r - 1) * n + n ≡ r * n
row_before zero n some = absurd (omega (arith, some))
row_before (suc r) n some = let before : suc r - 1 ≡ r = omega arith in let more : suc r * n ≡ r * n + n = grind arith in rw before (sym more)

-- a node that stands in a row, among those of all rows
pub among : (s : Stream) (k w r : ℕ) → k < r → w < length s.nodes → k * length s.nodes + w < r * length s.nodes
among s k w r less within =
    let turned : length s.nodes * r ≡ r * length s.nodes = grind arith in
    let below = mul-add-lt k (length s.nodes) w r less within in
    omega (arith, below, turned)

within_all : (s : Stream) (r : ℕ) → Fits s → r < s.count → r * length s.nodes + length s.nodes ≤ MAX_NODES
within_all s r fits row = by (length s.nodes) refl where
  by : (n : ℕ) → length s.nodes ≡ n → r * length s.nodes + length s.nodes ≤ MAX_NODES
  by zero none = rw none (omega arith)
  by (suc n) some = let last = among s r n s.count row (omega (arith, some)) in omega (arith, last, some, fits.few)

pub begins_behind : (s : Stream) (r begin : ℕ) → begin ≡ r * length s.nodes → 0 < r → length s.nodes ≤ begin
begins_behind s r begin is some = let before = row_before r (length s.nodes) some in omega (arith, is, before)

module _ (u : Unrolling) (s : Stream) (r v : ℕ) (is : IsUnrolled u s r v) where
  pub begins : (begin : ℕ) → begin ≡ length u.places.items - v → begin ≡ r * length s.nodes
  begins begin e = omega (arith, e, is.many)

  -- the place at which the next node comes
  next_own : (node : RowNode) → slice_get s.nodes v ≡ Some node → length u.nodes.items ≡ own s r v
  next_own node e =
      let within : v ≤ length s.nodes = omega (arith, slice_get_within s.nodes v node e) in
      let inputs : length (replicate (word_count s) flow_node.Input) ≡ word_count s = many_inputs (word_count s) in
      let rows : length (flat_map (row_nodes s) (range_with_len 0 r)) ≡ r * length s.nodes = rows_long s r 0 in
      let front : length (map (node_at s r) (take v s.nodes)) ≡ v = length-map (take v s.nodes) (node_at s r) ∙ length-take-le v s.nodes within in
      ap length is.nodes
      ∙ length-append (replicate (word_count s) flow_node.Input) (flat_map (row_nodes s) (range_with_len 0 r) ++ map (node_at s r) (take v s.nodes))
      ∙ omega (arith, inputs, rows, front, length-append (flat_map (row_nodes s) (range_with_len 0 r)) (map (node_at s r) (take v s.nodes)))

  pub next_few : (node : RowNode) → r < s.count → slice_get s.nodes v ≡ Some node → length u.nodes.items < 2 ^ 32
  next_few node row e = omega (arith, within_all s r is.fits row, next_own node e, slice_get_within s.nodes v node e, is.fits.few)

  -- where a value is found
  pub const_place : (word : ℕ) → slice_get s.nodes v ≡ Some (Const word) → length u.nodes.items ≡ place s r v
  const_place word e = next_own (Const word) e ∙ sym (place_const s is.fits.named r word v e)

  pub apply_place : (op : FlowOp) (a b : ℕ) → slice_get s.nodes v ≡ Some (Apply op a b) → length u.nodes.items ≡ place s r v
  apply_place op a b e = next_own (Apply op a b) e ∙ sym (place_apply s is.fits.named r v op a b e)

  pub pre_found : (begin a word : ℕ) → slice_get s.nodes v ≡ Some (Pre a word) → begin ≡ r * length s.nodes → pre_place u (length s.nodes) r begin a ≡ place s r v
  pre_found begin a word e begin_at = by (eqb r 0) refl where
    by : (b : Bool) → eqb r 0 ≡ b → cond b (length u.nodes.items) (slice_index u.places.items (begin - length s.nodes + a)) ≡ place s r v
    by true none =
        let same : r ≡ 0 = eqb-true r 0 none in
        next_own (Pre a word) e ∙ ap (λ k. own s k v) same ∙ sym (place_first s v a word e) ∙ ap (λ k. place s k v) (sym same)
    by false some =
        let later : 0 < r = let differ : r ≢ 0 = eqb-false r 0 some in omega (arith, differ) in
        let before = row_before r (length s.nodes) later in
        let at : begin - length s.nodes + a ≡ (r - 1) * length s.nodes + a = omega (arith, begin_at, before) in
        ap (slice_index u.places.items) at ∙ is.before (r - 1) a (omega (arith, later)) (is.fits.named.nodes v (Pre a word) e).0 ∙ sym (place_later s r v a word later e)

  -- the node that stands for one of the row
  pub node_made : (begin : ℕ) (node : RowNode) → begin ≡ r * length s.nodes → AreThere begin (length u.places.items) node → node_of u.places.items begin node ≡ node_at s r node
  node_made begin (Input q) at there = refl
  node_made begin (Const word) at there = refl
  node_made begin (Apply op a b) at there =
      let low : a < v = omega (arith, there.0, at, is.many) in
      let high : b < v = omega (arith, there.1, at, is.many) in
      ap (λ x. flow_node.Apply op x (slice_index u.places.items (begin + b))) (ap (λ k. slice_index u.places.items (k + a)) at ∙ is.here a low)
      ∙ ap (λ y. flow_node.Apply op (place s r a) y) (ap (λ k. slice_index u.places.items (k + b)) at ∙ is.here b high)
  node_made begin (Pre a word) at there = refl

  -- with one node more
  module _ (middle new : Unrolling) (where_is : ℕ) (node : RowNode) (made : Node) (next : IsNext u middle s r v) (next_same : new.next ≡ middle.next)
      (places : new.places.items ≡ middle.places.items ++ where_is ∷ []) (nodes : new.nodes.items ≡ middle.nodes.items ++ made ∷ [])
      (place_is : where_is ≡ place s r v) (e : slice_get s.nodes v ≡ Some node) (made_is : made ≡ node_at s r node) where
    places_are : new.places.items ≡ u.places.items ++ place s r v ∷ []
    places_are = places ∙ ap (λ p. p.items ++ where_is ∷ []) next.places ∙ ap (λ p. u.places.items ++ p ∷ []) place_is

    old_place : (i : ℕ) → i < length u.places.items → slice_index new.places.items i ≡ slice_index u.places.items i
    old_place i low = ap (λ places. slice_index places i) places_are ∙ get_or_append_left u.places.items (place s r v ∷ []) 0 i low

    before_next : (k w : ℕ) → k < r → w < length s.nodes → slice_index new.places.items (k * length s.nodes + w) ≡ place s k w
    before_next k w less within = let low = among s k w r less within in old_place (k * length s.nodes + w) (omega (arith, low, is.many)) ∙ is.before k w less within

    here_next : (w : ℕ) → w < v + 1 → slice_index new.places.items (r * length s.nodes + w) ≡ place s r w
    here_next w less =
        ⊎_elim
        (λ (low : w < v). old_place (r * length s.nodes + w) (omega (arith, low, is.many)) ∙ is.here w low)
        (λ (high : v ≤ w).
        let same : w ≡ v = omega (arith, high, less) in
        subst (λ j. slice_index new.places.items (r * length s.nodes + j) ≡ place s r j) (sym same)
        (ap (λ places. slice_index places (r * length s.nodes + v)) places_are ∙ get_or_push u.places.items (place s r v) 0 (r * length s.nodes + v) is.many))
        (cases_lt w v)

    nodes_next : new.nodes.items ≡ replicate (word_count s) flow_node.Input ++ (flat_map (row_nodes s) (range_with_len 0 r) ++ map (node_at s r) (take (v + 1) s.nodes))
    nodes_next =
        let inputs : List Node = replicate (word_count s) flow_node.Input in
        let rows : List Node = flat_map (row_nodes s) (range_with_len 0 r) in
        let front : List Node = map (node_at s r) (take v s.nodes) in
        let within = slice_get_within s.nodes v node e in
        let there : get_or s.nodes v node ≡ node = get_or_from_slice_get s.nodes v node node e in
        let more : map (node_at s r) (take (v + 1) s.nodes) ≡ front ++ node_at s r node ∷ [] =
        ap (map (node_at s r)) (take_more s.nodes v node within) ∙ map-append (node_at s r) (take v s.nodes) (get_or s.nodes v node ∷ []) ∙ ap (λ n. front ++ node_at s r n ∷ []) there in
        nodes ∙ ap (λ n. n.items ++ made ∷ []) next.nodes ∙ ap (λ xs. xs ++ made ∷ []) is.nodes ∙ ap (λ n. (inputs ++ (rows ++ front)) ++ n ∷ []) made_is
        ∙ append_assoc inputs (rows ++ front) (node_at s r node ∷ []) ∙ ap (λ xs. inputs ++ xs) (append_assoc rows front (node_at s r node ∷ [])) ∙ ap (λ xs. inputs ++ (rows ++ xs)) (sym more)

    pub one_more : IsUnrolled new s r (v + 1)
    one_more = record {
      fits = is.fits;
      sources = ap (λ n. length n.items) next_same ∙ next.sources;
      next = λ q below. ap (λ n. slice_index n.items q) next_same ∙ next.next q below;
      many = let long = length_push u.places.items (place s r v) in omega (arith, is.many, long, ap length places_are);
      before = before_next;
      here = here_next;
      nodes = nodes_next;
    }

-- what an operation names has its place
pub are_there : (u : Unrolling) (s : Stream) (r v begin : ℕ) (node : RowNode) → IsUnrolled u s r v → slice_get s.nodes v ≡ Some node → begin ≡ r * length s.nodes → AreThere begin (length u.places.items) node
are_there u s r v begin (Input q) is e at = tt
are_there u s r v begin (Const word) is e at = tt
are_there u s r v begin (Apply op a b) is e at =
    let below = is.fits.named.nodes v (Apply op a b) e in (omega (arith, below.0, at, is.many), omega (arith, below.1, at, is.many))
are_there u s r v begin (Pre a word) is e at = tt

-- the words that a node takes
pub took : (old new : Unrolling) (s : Stream) (r v p : ℕ) → IsUnrolled old s r v → slice_get s.nodes v ≡ Some (Input p) → Takes old new p → IsNext old new s r v
took old new s r v p is e takes = record {
  sources = ap length takes.next ∙ length-set old.next.items p (slice_index old.next.items p + 1) ∙ is.sources;
  next = λ q below. ap (λ xs. slice_index xs q) takes.next ∙ input_next s r v p old.next.items is.sources (is.fits.named.nodes v (Input p) e) e is.next q below;
  places = takes.places;
  nodes = takes.nodes;
}

pub took_none : (u : Unrolling) (s : Stream) (r v : ℕ) (node : RowNode) → IsUnrolled u s r v → slice_get s.nodes v ≡ Some node → ((q : ℕ) → takes q node ≡ 0) → IsNext u u s r v
took_none u s r v node is e none = record { sources = is.sources; next = λ q below. other_next s r v node u.next.items e none is.next q below; places = refl; nodes = refl }

-- a row is done
pub row_done : (u : Unrolling) (s : Stream) (r : ℕ) → IsUnrolled u s r (length s.nodes) → IsUnrolled u s (r + 1) 0
row_done u s r is =
    let inputs : List Node = replicate (word_count s) flow_node.Input in
    let rows : List Node = flat_map (row_nodes s) (range_with_len 0 r) in
    let same : 0 + r ≡ r = omega arith in
    let whole : map (node_at s r) (take (length s.nodes) s.nodes) ≡ row_nodes s r = ap (map (node_at s r)) (take_all (length s.nodes) s.nodes (omega arith)) in
    let more : rows ++ row_nodes s r ≡ flat_map (row_nodes s) (range_with_len 0 (r + 1)) =
    flat_map_more (row_nodes s) [] (range_with_len 0 r) r ∙ ap (λ k. flat_map (row_nodes s) (range_with_len 0 r ++ k ∷ [])) (sym same) ∙ ap (flat_map (row_nodes s)) (sym (range_push 0 r)) in
    record {
      fits = is.fits;
      sources = is.sources;
      next = λ q below. is.next q below ∙ row_done_place s r q;
      many = let longer : (r + 1) * length s.nodes ≡ r * length s.nodes + length s.nodes = grind arith in omega (arith, is.many, longer);
      before = λ k w less within.
          ⊎_elim
          (λ (low : k < r). is.before k w low within)
          (λ (high : r ≤ k). let last : k ≡ r = omega (arith, high, less) in subst (λ j. slice_index u.places.items (j * length s.nodes + w) ≡ place s j w) (sym last) (is.here w within))
          (cases_lt k r);
      here = λ w less. absurd (omega (arith, less));
      nodes = is.nodes ∙ ap (λ xs. inputs ++ (rows ++ xs)) whole ∙ ap (λ xs. inputs ++ xs) (more ∙ sym (append-nil (flat_map (row_nodes s) (range_with_len 0 (r + 1)))));
    }

pub filled : {X : Type 0} (old new : List X) (n m k : ℕ) (x : X) → new ≡ take n old ++ replicate (n - m) x → old ≡ [] → m ≡ 0 → n ≡ k → new ≡ replicate k x
filled old new n m k x is none zero_many same =
    let whole : n - m ≡ k = omega (arith, zero_many, same) in
    is ∙ ap (λ xs. take n xs ++ replicate (n - m) x) none ∙ ap (λ xs. xs ++ replicate (n - m) x) (take_all n [] (omega arith)) ∙ ap (λ j. replicate j x) whole

-- no row is unrolled
pub none_unrolled : (u : Unrolling) (s : Stream) → Fits s → u.next.items ≡ map (first s) (range_with_len 0 (length s.sources)) → u.places.items ≡ [] → u.nodes.items ≡ replicate (word_count s) flow_node.Input → IsUnrolled u s 0 0
none_unrolled u s fits next places nodes = record {
  fits = fits;
  sources = ap length next ∙ firsts_long s (length s.sources);
  next = λ q below. ap (λ xs. slice_index xs q) next ∙ firsts_at s (length s.sources) q below ∙ sym (first_word s q);
  many = ap length places ∙ omega arith;
  before = λ k w less within. absurd (omega (arith, less));
  here = λ w less. absurd (omega (arith, less));
  nodes = nodes ∙ sym (append-nil (replicate (word_count s) flow_node.Input));
}

-- all rows are
pub all_places : (u : Unrolling) (s : Stream) → IsUnrolled u s s.count 0 → ArePlaces s u.places.items
all_places u s is = record { fits = is.fits; many = is.many ∙ omega arith; each = λ r v row within. is.before r v row within }

pub all_nodes : (u : Unrolling) (s : Stream) → IsUnrolled u s s.count 0 → u.nodes.items ≡ (unrolled s).nodes
all_nodes u s is = is.nodes ∙ ap (λ xs. replicate (word_count s) flow_node.Input ++ xs) (append-nil (flat_map (row_nodes s) (range_with_len 0 s.count)))
