-- Going over the nodes of a flow in order: their values, and where they are made.
use Rattle.std.proofs.Common.{◌≡◌, ℕ, zero, suc, take, ◌+◌, ◌^◌, ◌<◌, ◌≤◌, true, List, [], ◌∷◌, ◌++◌, length, Some, refl, sym, ap, ◌∙◌, subst, ⊎_elim, arith, append_assoc, length-append}
use Rattle.std.specs.Prelude.{slice_get, slice_index}
use Rattle.std.specs.List.{All}
use Rattle.std.specs.Int.Bits.{and_lt}
use Rattle.std.proofs.lemmas.Bool.{cases_lt, eq-eqb, or_right}
use Rattle.std.proofs.lemmas.List.{get_or_append_left, get_or_at, length_push, get_or_past}
use Rattle.std.proofs.lemmas.List.Elements.{All-nil, All-cons, All-append}
use Rattle.std.proofs.lemmas.Nat.{or_lt, xor_lt}
use Rattle.std.proofs.lemmas.Option.{slice_get_within, same_Some}
use Rattle.raw_tile_isa.specs.Words.{EachGivesWords}
use Rattle.raw_flow.specs.declared.node.FlowOp.{FlowOp}
use Rattle.raw_flow.specs.declared.node.FlowOp.TheVariants.{Add, Sub, Mul, MulHigh, MulHighUnsigned, And, Or, Xor, Nor, Less, LessUnsigned, ShiftLeft, ShiftRight, ShiftRightSigned}
use Rattle.raw_flow.specs.declared.node.Node.{Node}
use Rattle.raw_flow.specs.declared.node.Node.TheVariants.{Input, Const, Apply}
use Rattle.raw_flow.specs.Flows.{Dataflow, IsFlow, IsNode, AreNodes, AreInputs, with_input, inputs_in, applied, value_of, values_from, values_of}
use Rattle.raw_flow.specs.Places.{Holding, is_holding, has, with_value}
use Rattle.raw_flow.specs.Compiled.{tiles_in}

-- an operation makes words of words
pub applied_word : EachGivesWords → (op : FlowOp) (a b : ℕ) → a < 2 ^ 32 → b < 2 ^ 32 → applied op a b < 2 ^ 32
applied_word each Add a b ha hb = (each a b ha hb).add
applied_word each Sub a b ha hb = (each a b ha hb).sub
applied_word each Mul a b ha hb = (each a b ha hb).mul_low
applied_word each MulHigh a b ha hb = (each a b ha hb).mul_high
applied_word each MulHighUnsigned a b ha hb = (each a b ha hb).mul_high_unsigned
applied_word each And a b ha hb = and_lt 32 a b ha hb
applied_word each Or a b ha hb = or_lt 32 a b ha hb
applied_word each Xor a b ha hb = xor_lt 32 a b ha hb
applied_word each Nor a b ha hb = omega arith
applied_word each Less a b ha hb = (each a b ha hb).less
applied_word each LessUnsigned a b ha hb = (each a b ha hb).less_unsigned
applied_word each ShiftLeft a b ha hb = (each a b ha hb).shift_left
applied_word each ShiftRight a b ha hb = (each a b ha hb).shift_right
applied_word each ShiftRightSigned a b ha hb = (each a b ha hb).shift_right_signed

abbrev IsWord : ℕ → Type 0
IsWord word = word < 2 ^ 32

-- the constants are words
abbrev HasWord : Node → Type 0
HasWord (Const word) = word < 2 ^ 32
HasWord _ = Unit {0}

has_word : (v : ℕ) (node : Node) → IsNode v node → HasWord node
has_word v (Const word) h = h
has_word v _ h = tt

word_in : (words : List ℕ) (k : ℕ) → All IsWord words → slice_index words k < 2 ^ 32
word_in words k all = ⊎_elim (λ (h : k < length words). all k 0 h) (λ (h : length words ≤ k). subst IsWord (sym (get_or_past words k 0 h)) (omega arith)) (cases_lt k (length words))

value_word : EachGivesWords → (inputs : List ℕ) (k : ℕ) (done : List ℕ) (node : Node) → HasWord node → All IsWord done → All IsWord inputs → value_of inputs k done node < 2 ^ 32
value_word each inputs k done Input h ad ai = word_in inputs k ai
value_word each inputs k done (Const word) h ad ai = h
value_word each inputs k done (Apply op a b) h ad ai = applied_word each op (slice_index done a) (slice_index done b) (word_in done a ad) (word_in done b ad)

values_words : EachGivesWords → (inputs : List ℕ) (nodes : List Node) (k : ℕ) (done : List ℕ) → ((i : ℕ) (node : Node) → slice_get nodes i ≡ Some node → HasWord node)
    → All IsWord done → All IsWord inputs → All IsWord (values_from inputs k done nodes)
values_words each inputs [] k done h ad ai = ad
values_words each inputs (node ∷ nodes) k done h ad ai =
    let x : ℕ = value_of inputs k done node in
    values_words each inputs nodes (with_input node k) (done ++ x ∷ []) (λ i n e. h (suc i) n e)
    (All-append IsWord done (x ∷ []) ad (All-cons IsWord x [] (value_word each inputs k done node (h 0 node refl) ad ai) (All-nil IsWord))) ai

pub flow_words : EachGivesWords → (flow : Dataflow) (inputs : List ℕ) → IsFlow flow → AreInputs flow inputs → (v : ℕ) → slice_index (values_of flow inputs) v < 2 ^ 32
unfolding values_of
flow_words each flow inputs is given v =
    word_in (values_of flow inputs) v (values_words each inputs flow.nodes 0 [] (λ i node e. has_word i node (is.nodes i node e)) (All-nil IsWord) given.words)

-- values that are there stay
values_keep : (inputs : List ℕ) (nodes : List Node) (k : ℕ) (done : List ℕ) (u : ℕ) → u < length done → slice_index (values_from inputs k done nodes) u ≡ slice_index done u
values_keep inputs [] k done u h = refl
values_keep inputs (node ∷ nodes) k done u h =
    values_keep inputs nodes (with_input node k) (done ++ value_of inputs k done node ∷ []) u (omega (arith, length-append done (value_of inputs k done node ∷ [])))
    ∙ get_or_append_left done (value_of inputs k done node ∷ []) 0 u h

-- these nodes are those of the flow from v on; before them there are k inputs, and these are the values of the nodes before them
pub record Walk (flow : Dataflow) (inputs : List ℕ) (v : ℕ) (nodes : List Node) (k : ℕ) (done : List ℕ) : Type 0 where
  pub front : List Node
  pub whole : flow.nodes ≡ front ++ nodes
  pub before : length front ≡ v
  pub values : values_of flow inputs ≡ values_from inputs k done nodes
  pub at : length done ≡ v

pub walk_first : (flow : Dataflow) (inputs : List ℕ) → Walk flow inputs 0 flow.nodes 0 []
unfolding values_of
walk_first flow inputs = record { front = []; whole = refl; before = refl; values = refl; at = refl }

get_at : (front : List Node) (node : Node) (nodes : List Node) → slice_get (front ++ node ∷ nodes) (length front) ≡ Some node
get_at [] node nodes = refl
get_at (x ∷ front) node nodes = get_at front node nodes

module _ (flow : Dataflow) (inputs : List ℕ) (v : ℕ) (node : Node) (nodes : List Node) (k : ℕ) (done : List ℕ) (walk : Walk flow inputs v (node ∷ nodes) k done) where
  pub walk_more : Walk flow inputs (v + 1) nodes (with_input node k) (done ++ value_of inputs k done node ∷ [])
  walk_more = record {
    front = walk.front ++ node ∷ [];
    whole = walk.whole ∙ sym (append_assoc walk.front (node ∷ []) nodes);
    before = length_push walk.front node ∙ ap (λ n. n + 1) walk.before;
    values = walk.values;
    at = length_push done (value_of inputs k done node) ∙ ap (λ n. n + 1) walk.at;
  }

  pub walk_node : slice_get flow.nodes v ≡ Some node
  walk_node = ap (λ xs. slice_get xs v) walk.whole ∙ subst (λ n. slice_get (walk.front ++ node ∷ nodes) n ≡ Some node) walk.before (get_at walk.front node nodes)

  pub walk_within : v < length flow.nodes
  walk_within = slice_get_within flow.nodes v node walk_node

  pub walk_before : (u : ℕ) → u < v → slice_index (values_of flow inputs) u ≡ slice_index done u
  walk_before u h = ap (λ xs. slice_index xs u) walk.values ∙ values_keep inputs (node ∷ nodes) k done u (omega (arith, walk.at))

  pub walk_value : slice_index (values_of flow inputs) v ≡ value_of inputs k done node
  walk_value =
      let x : ℕ = value_of inputs k done node in
      ap (λ xs. slice_index xs v) walk.values
      ∙ values_keep inputs nodes (with_input node k) (done ++ x ∷ []) v (omega (arith, walk.at, length_push done x))
      ∙ get_or_at done x [] 0 v walk.at

pub walk_total : (flow : Dataflow) (inputs : List ℕ) (v : ℕ) (nodes : List Node) (k : ℕ) (done : List ℕ) → Walk flow inputs v nodes k done → v + length nodes ≡ length flow.nodes
walk_total flow inputs v nodes k done walk = omega (arith, ap length walk.whole, length-append walk.front nodes, walk.before)

-- a node at a place, behind so many inputs
record There (flow : Dataflow) (inputs : List ℕ) (v : ℕ) (node : Node) (k : ℕ) : Type 0 where
  done : List ℕ
  rest : List Node
  walk : Walk flow inputs v (node ∷ rest) k done

with_input_sum : (node : Node) (k m : ℕ) → with_input node k + m ≡ k + with_input node m
with_input_sum Input k m = omega arith
with_input_sum _ k m = refl

walk_at : (flow : Dataflow) (inputs : List ℕ) (nodes : List Node) (u k : ℕ) (done : List ℕ) → Walk flow inputs u nodes k done
    → (i : ℕ) (node : Node) → slice_get nodes i ≡ Some node → (v : ℕ) → u + i ≡ v → There flow inputs v node (k + inputs_in (take i nodes))
walk_at flow inputs [] u k done walk i node e v is = cc e
walk_at flow inputs (x ∷ nodes) u k done walk zero node e v is =
    let same_place : u ≡ v = omega arith in
    let none : k ≡ k + 0 = omega arith in
    let here : Walk flow inputs v (x ∷ nodes) (k + 0) done = subst (λ j. Walk flow inputs v (x ∷ nodes) j done) none (subst (λ w. Walk flow inputs w (x ∷ nodes) k done) same_place walk) in
    record { done = done; rest = nodes; walk = subst (λ (n : Node). Walk flow inputs v (n ∷ nodes) (k + 0) done) (same_Some x node e) here }
walk_at flow inputs (x ∷ nodes) u k done walk (suc i) node e v is =
    subst (λ j. There flow inputs v node j) (with_input_sum x k (inputs_in (take i nodes)))
    (walk_at flow inputs nodes (u + 1) (with_input x k) (done ++ value_of inputs k done x ∷ []) (walk_more flow inputs u x nodes k done walk) i node e v (omega arith))

walk_to : (flow : Dataflow) (inputs : List ℕ) (v : ℕ) (node : Node) → slice_get flow.nodes v ≡ Some node → There flow inputs v node (0 + inputs_in (take v flow.nodes))
walk_to flow inputs v node e = let is : 0 + v ≡ v = omega arith in walk_at flow inputs flow.nodes 0 0 [] (walk_first flow inputs) v node e v is

-- the values of the three kinds of nodes
pub input_value : (flow : Dataflow) (inputs : List ℕ) (v : ℕ) → slice_get flow.nodes v ≡ Some Input → slice_index (values_of flow inputs) v ≡ slice_index inputs (inputs_in (take v flow.nodes))
input_value flow inputs v e =
    let there = walk_to flow inputs v Input e in
    let none : 0 + inputs_in (take v flow.nodes) ≡ inputs_in (take v flow.nodes) = omega arith in
    walk_value flow inputs v Input there.rest (0 + inputs_in (take v flow.nodes)) there.done there.walk ∙ ap (slice_index inputs) none

pub const_value : (flow : Dataflow) (inputs : List ℕ) (v word : ℕ) → slice_get flow.nodes v ≡ Some (Const word) → slice_index (values_of flow inputs) v ≡ word
const_value flow inputs v word e =
    let there = walk_to flow inputs v (Const word) e in
    walk_value flow inputs v (Const word) there.rest (0 + inputs_in (take v flow.nodes)) there.done there.walk

pub apply_value : (flow : Dataflow) (inputs : List ℕ) (v : ℕ) (op : FlowOp) (a b : ℕ) → AreNodes flow.nodes → slice_get flow.nodes v ≡ Some (Apply op a b)
    → slice_index (values_of flow inputs) v ≡ applied op (slice_index (values_of flow inputs) a) (slice_index (values_of flow inputs) b)
apply_value flow inputs v op a b are e =
    let there = walk_to flow inputs v (Apply op a b) e in
    let k : ℕ = 0 + inputs_in (take v flow.nodes) in
    let below : IsNode v (Apply op a b) = are v (Apply op a b) e in
    walk_value flow inputs v (Apply op a b) there.rest k there.done there.walk
    ∙ sym (ap (λ x. applied op x (slice_index (values_of flow inputs) b)) (walk_before flow inputs v (Apply op a b) there.rest k there.done there.walk a below.0)
    ∙ ap (λ y. applied op (slice_index there.done a) y) (walk_before flow inputs v (Apply op a b) there.rest k there.done there.walk b below.1))

-- some tile there is
pub some_tiles : (flow : Dataflow) → IsFlow flow → 0 < tiles_in flow
some_tiles flow is = let c : 1 ≤ flow.cols = is.size.some_cols in let r : 1 ≤ flow.rows = is.size.some_rows in grind arith

-- holdings
pub has_new : (held : List Holding) (v t : ℕ) → has (with_value held v t) v t ≡ true
has_new held v t = rw (eq-eqb v v refl, eq-eqb t t refl) refl

pub has_still : (held : List Holding) (v t u w : ℕ) → has held u w ≡ true → has (with_value held v t) u w ≡ true
has_still held v t u w h = or_right (is_holding u w (record { value = v; tile = t })) (has held u w) h
