-- The values of a row node by node, and what a sink is due of rows.
use Rattle.std.proofs.Common.{◌≡◌, ℕ, zero, suc, ◌+◌, ◌<◌, ◌≤◌, false, cond, eqb, List, [], ◌∷◌, ◌++◌, length, map, take, Some, refl, sym, ap, ◌∙◌, subst, arith, ⊎_elim}
use Rattle.std.specs.Prelude.{slice_get, slice_index, option_map}
use Rattle.std.specs.List.{flat_map, range_with_len}
use Rattle.std.proofs.lemmas.Bool.{cases_lt}
use Rattle.std.proofs.lemmas.Bool.Decides.{nat_tests}
use Rattle.std.proofs.lemmas.List.{length-map, length-set, length_push, get_or_push, get_or_append_left, get_or_default, same_lists}
use Rattle.std.proofs.lemmas.Option.{slice_get-map}
use Rattle.raw_flow.specs.declared.node.Node.{Node}
use Rattle.raw_flow.specs.Flows.{Dataflow, applied, with_input, value_of, values_from, values_of, inputs_in}
use Rattle.raw_stream.specs.declared.row_node.RowNode.{RowNode}
use Rattle.raw_stream.specs.declared.row_node.RowNode.TheVariants.{Input, Const, Apply, Pre}
use Rattle.raw_stream.specs.Streams.{Stream, AreNamed, plain, plain_nodes, taken, rows_of, valued, due_at, due_to}
use Rattle.raw_stream.specs.Unrolled.{word_place, row_words, all_rows, word_count}
use Rattle.raw_stream.proofs.Places.{word_within}
use Rattle.raw_stream.proofs.Taken.{pres, pres_first, pres_next, taken_pre, taken_word}
use Rattle.raw_stream.proofs.Unrolled.{EachValue, are_plain}
use Rattle.raw_unroll.specs.Values.{carried_into, row_at, AreNext, IsBefore, AreValues, HasValue, node_value, next_after}
use Rattle.raw_unroll.proofs.Rows.{input_next, other_next, first_word}
use Rattle.raw_unroll.proofs.Begins.{firsts_long, firsts_at}
use Rattle.raw_stream.specs.Unrolled.{first}

-- ---- a row has a value for each node
values_long : (inputs : List ℕ) (k : ℕ) (before : List ℕ) (nodes : List Node) → length (values_from inputs k before nodes) ≡ length before + length nodes
values_long inputs k before [] = omega arith
values_long inputs k before (node ∷ nodes) =
    let more = length_push before (value_of inputs k before node) in
    values_long inputs (with_input node k) (before ++ value_of inputs k before node ∷ []) nodes ∙ omega (arith, more)

pub row_long : (s : Stream) (all : List ℕ) (r : ℕ) → length (row_at s all r) ≡ length s.nodes
unfolding row_at
row_long s all r =
    values_long (taken s.nodes (carried_into s all r) (row_words s all r)) 0 [] (plain_nodes s) ∙ (let many : length (plain_nodes s) ≡ length s.nodes = length-map s.nodes plain in omega (arith, many))

-- a row as a flow
abbrev as_flow : Stream → Dataflow
as_flow s = record { cols = 1; rows = 1; nodes = plain_nodes s; outs = [] }

abbrev inputs_of : Stream → List ℕ → ℕ → List ℕ
inputs_of s all r = taken s.nodes (carried_into s all r) (row_words s all r)

row_is : (s : Stream) (all : List ℕ) (r : ℕ) → values_of (as_flow s) (inputs_of s all r) ≡ row_at s all r
unfolding values_of row_at
row_is s all r = refl

plain_at : (s : Stream) (v : ℕ) (node : RowNode) → slice_get s.nodes v ≡ Some node → slice_get (plain_nodes s) v ≡ Some (plain node)
plain_at s v node e = slice_get-map plain s.nodes v ∙ ap (option_map plain) e

-- what a `Pre` is in row r
pre_at : Stream → List ℕ → ℕ → ℕ → ℕ → ℕ
pre_at s all zero a word = word
pre_at s all (suc r) a word = slice_index (row_at s all r) a

carried_is : (s : Stream) (all : List ℕ) (r : ℕ) → carried_into s all r ≡ pres (pre_at s all r) s.nodes
unfolding pre_at row_at
carried_is s all zero = pres_first s.nodes
carried_is s all (suc r) = pres_next (row_at s all r) s.nodes

module _ (each : EachValue) (s : Stream) (named : AreNamed s) (all : List ℕ) (r : ℕ) where
  at_row : (v x : ℕ) → slice_index (values_of (as_flow s) (inputs_of s all r)) v ≡ x → slice_index (row_at s all r) v ≡ x
  at_row v x is = ap (λ row. slice_index row v) (sym (row_is s all r)) ∙ is

  pre_is : (v a word : ℕ) → slice_get s.nodes v ≡ Some (Pre a word) → slice_index (row_at s all r) v ≡ pre_at s all r a word
  pre_is v a word e =
      at_row v (pre_at s all r a word)
      (each.input (as_flow s) (inputs_of s all r) v (plain_at s v (Pre a word) e)
      ∙ ap (λ cs. slice_index (taken s.nodes cs (row_words s all r)) (inputs_in (take v (plain_nodes s)))) (carried_is s all r)
      ∙ taken_pre (pre_at s all r) s.nodes (row_words s all r) v a word e)

  before_is : (before : List ℕ) (a word : ℕ) → IsBefore s all r before → cond (eqb r 0) word (slice_index before a) ≡ pre_at s all r a word
  unfolding pre_at
  before_is before a word is = by r is where
    by : (k : ℕ) → IsBefore s all k before → cond (eqb k 0) word (slice_index before a) ≡ pre_at s all k a word
    by zero same = refl
    by (suc k) same = let later : eqb (suc k) 0 ≡ false = grind (arith, nat_tests) in ap (λ b. cond b word (slice_index before a)) later ∙ ap (λ row. slice_index row a) same

  -- the value of a node
  pub value_is : (next before values : List ℕ) (v : ℕ) (node : RowNode) → slice_get s.nodes v ≡ Some node → AreNext s r v next → IsBefore s all r before → AreValues s all r v values
      → node_value next all before values r node ≡ slice_index (row_at s all r) v
  value_is next before values v (Input q) e places is are =
      ap (slice_index all) (places.each q (named.nodes v (Input q) e))
      ∙ sym (at_row v (slice_index all (word_place s r q v)) (each.input (as_flow s) (inputs_of s all r) v (plain_at s v (Input q) e) ∙ taken_word s all r s.nodes (carried_into s all r) 0 v q v e (omega arith)))
  value_is next before values v (Const word) e places is are = sym (at_row v word (each.constant (as_flow s) (inputs_of s all r) v word (plain_at s v (Const word) e)))
  value_is next before values v (Apply op a b) e places is are =
      let below = named.nodes v (Apply op a b) e in
      let here : List ℕ = values_of (as_flow s) (inputs_of s all r) in
      let same : here ≡ row_at s all r = row_is s all r in
      ap (λ x. applied op x (slice_index values b)) (are.each a below.0) ∙ ap (λ y. applied op (slice_index (row_at s all r) a) y) (are.each b below.1)
      ∙ ap (λ row. applied op (slice_index row a) (slice_index row b)) (sym same)
      ∙ sym (at_row v (applied op (slice_index here a) (slice_index here b)) (each.operation (as_flow s) (inputs_of s all r) v op a b (are_plain s named) (plain_at s v (Apply op a b) e)))
  value_is next before values v (Pre a word) e places is are = before_is before a word is ∙ sym (pre_is v a word e)

-- what a node names is there
pub has_value : (s : Stream) (named : AreNamed s) (all : List ℕ) (r v : ℕ) (next before values : List ℕ) (node : RowNode) → r < s.count → length all ≡ word_count s → slice_get s.nodes v ≡ Some node
    → AreNext s r v next → IsBefore s all r before → AreValues s all r v values → HasValue next all before values r node
has_value s named all r v next before values (Input q) row long e places is are =
    let some = named.nodes v (Input q) e in
    let inside = word_within s named r q v row e in
    (omega (arith, some, places.many), omega (arith, inside, long, places.each q some))
has_value s named all r v next before values (Const word) row long e places is are = tt
has_value s named all r v next before values (Apply op a b) row long e places is are =
    let below = named.nodes v (Apply op a b) e in (omega (arith, below.0, are.many), omega (arith, below.1, are.many))
has_value s named all r v next before values (Pre a word) row long e places is are = by r is where
  by : (k : ℕ) → IsBefore s all k before → 0 < k → a < length before
  by zero same none = absurd (omega (arith, none))
  by (suc k) same more = omega (arith, (named.nodes v (Pre a word) e).0, row_long s all k, ap length same)

-- a node more
pub next_more : (s : Stream) (named : AreNamed s) (r v : ℕ) (node : RowNode) (next : List ℕ) → slice_get s.nodes v ≡ Some node → AreNext s r v next → AreNext s r (v + 1) (next_after next node)
next_more s named r v (Input q) next e are = record {
  many = length-set next q (slice_index next q + 1) ∙ are.many;
  each = input_next s r v q next are.many (named.nodes v (Input q) e) e are.each;
}
next_more s named r v (Const word) next e are = record { many = are.many; each = other_next s r v (Const word) next e (λ q. refl) are.each }
next_more s named r v (Apply op a b) next e are = record { many = are.many; each = other_next s r v (Apply op a b) next e (λ q. refl) are.each }
next_more s named r v (Pre a word) next e are = record { many = are.many; each = other_next s r v (Pre a word) next e (λ q. refl) are.each }

pub values_more : (s : Stream) (all : List ℕ) (r v value : ℕ) (values : List ℕ) → AreValues s all r v values → value ≡ slice_index (row_at s all r) v → AreValues s all r (v + 1) (values ++ value ∷ [])
values_more s all r v value values are is = record {
  many = let long = length_push values value in omega (arith, long, are.many);
  each = λ u less.
      ⊎_elim
      (λ (low : u < v). get_or_append_left values (value ∷ []) 0 u (omega (arith, low, are.many)) ∙ are.each u low)
      (λ (high : v ≤ u). let same : u ≡ v = omega (arith, high, less) in subst (λ j. slice_index (values ++ value ∷ []) j ≡ slice_index (row_at s all r) j) (sym same) (get_or_push values value 0 v are.many ∙ is))
      (cases_lt u v);
}

-- a row is done
pub row_whole : (s : Stream) (all : List ℕ) (r : ℕ) (values : List ℕ) → AreValues s all r (length s.nodes) values → values ≡ row_at s all r
row_whole s all r values are =
    let long = row_long s all r in
    same_lists values (row_at s all r) (are.many ∙ sym long)
    (λ k d within.
    get_or_default values k d 0 within ∙ are.each k (omega (arith, within, are.many)) ∙ get_or_default (row_at s all r) k 0 d (omega (arith, within, are.many, long)))

pub next_first : (s : Stream) (next : List ℕ) → next ≡ map (first s) (range_with_len 0 (length s.sources)) → AreNext s 0 0 next
next_first s next is = record {
  many = ap length is ∙ firsts_long s (length s.sources);
  each = λ q below. ap (λ xs. slice_index xs q) is ∙ firsts_at s (length s.sources) q below ∙ sym (first_word s q);
}

pub before_next : (s : Stream) (all : List ℕ) (r : ℕ) (before : List ℕ) → before ≡ row_at s all r → IsBefore s all (r + 1) before
before_next s all r before is = let more : suc r ≡ r + 1 = omega arith in subst (λ k. IsBefore s all k before) more is

-- ---- all rows
rows_are : (s : Stream) (all : List ℕ) (m r : ℕ) → rows_of s (carried_into s all r) (map (row_words s all) (range_with_len r m)) ≡ map (row_at s all) (range_with_len r m)
unfolding row_at
rows_are s all zero r = refl
rows_are s all (suc m) r =
    let more : suc r ≡ r + 1 = omega arith in
    let rest = subst (λ k. rows_of s (carried_into s all k) (map (row_words s all) (range_with_len (r + 1) m)) ≡ map (row_at s all) (range_with_len (r + 1) m)) (sym more) (rows_are s all m (r + 1)) in
    ap (λ rows. row_at s all r ∷ rows) rest

dues_of : (f : ℕ → List ℕ) (nodes : List ℕ) (rs : List ℕ) → flat_map (λ row. valued row nodes) (map f rs) ≡ flat_map (λ r. valued (f r) nodes) rs
dues_of f nodes [] = refl
dues_of f nodes (r ∷ rs) = ap (λ xs. valued (f r) nodes ++ xs) (dues_of f nodes rs)

pub all_due_of : (s : Stream) (all : List ℕ) (q : ℕ) → flat_map (λ r. valued (row_at s all r) (due_at s q)) (range_with_len 0 s.count) ≡ due_to s q (all_rows s all)
all_due_of s all q = sym (ap (flat_map (λ row. valued row (due_at s q))) (rows_are s all s.count 0) ∙ dues_of (row_at s all) (due_at s q) (range_with_len 0 s.count))
