-- Flows: straight-line definitions of words, and the values of their nodes.
use Rattle.std.specs.Prelude.{◌≡◌, ℕ, ◌+◌, ◌-◌, ◌^◌, ◌<◌, ◌≤◌, bit_and, bit_or, bit_xor, Some, List, [], ◌∷◌, ◌++◌, length, map, slice_get, slice_index, All}
use Rattle.raw_tile_isa.specs.Words.{word_add, word_sub, word_mul_low, word_mul_high, word_mul_high_unsigned, word_shift_left, word_shift_right, word_shift_right_signed, word_less, word_less_unsigned}
use Rattle.raw_grid.specs.Topology.{IsSize}
use Rattle.raw_flow.specs.declared.node.FlowOp.{FlowOp}
use Rattle.raw_flow.specs.declared.node.FlowOp.TheVariants.{Add, Sub, Mul, MulHigh, MulHighUnsigned, And, Or, Xor, Nor, Less, LessUnsigned, ShiftLeft, ShiftRight, ShiftRightSigned}
use Rattle.raw_flow.specs.declared.node.Node.{Node}
use Rattle.raw_flow.specs.declared.node.Node.TheVariants.{Input, Const, Apply}
use Rattle.raw_flow.specs.declared.limits.TheConstants.{MAX_NODES}

-- the size of the grid, the nodes in order, and the numbers of those whose values are wanted
pub record Dataflow : Type 0 where
  pub cols : ℕ
  pub rows : ℕ
  pub nodes : List Node
  pub outs : List ℕ

-- node v names earlier nodes, and a word
abbrev pub IsNode : ℕ → Node → Type 0
IsNode v Input = Unit {0}
IsNode v (Const word) = word < 2 ^ 32
IsNode v (Apply op a b) = (a < v) × (b < v)

-- each node names earlier nodes, and a word
abbrev pub AreNodes : List Node → Type 0
AreNodes nodes = (v : ℕ) (node : Node) → slice_get nodes v ≡ Some node → IsNode v node

-- what each flow keeps
pub record IsFlow (flow : Dataflow) : Type 0 where
  pub size : IsSize flow.cols flow.rows
  pub few : length flow.nodes ≤ MAX_NODES
  pub nodes : AreNodes flow.nodes
  pub some_out : 1 ≤ length flow.outs
  pub outs : All (λ v. v < length flow.nodes) flow.outs

-- how many inputs there are with a node more
abbrev pub with_input : Node → ℕ → ℕ
with_input Input k = k + 1
with_input _ k = k

-- how many inputs there are among nodes
abbrev pub inputs_in : List Node → ℕ
inputs_in [] = 0
inputs_in (node ∷ nodes) = with_input node (inputs_in nodes)

-- as many words as there are inputs
pub record AreInputs (flow : Dataflow) (inputs : List ℕ) : Type 0 where
  pub each : length inputs ≡ inputs_in flow.nodes
  pub words : All (λ word. word < 2 ^ 32) inputs

-- what an operation makes of two words; shifts are by the second word modulo 32
abbrev pub applied : FlowOp → ℕ → ℕ → ℕ
applied Add a b = word_add a b
applied Sub a b = word_sub a b
applied Mul a b = word_mul_low a b
applied MulHigh a b = word_mul_high a b
applied MulHighUnsigned a b = word_mul_high_unsigned a b
applied And a b = bit_and a b
applied Or a b = bit_or a b
applied Xor a b = bit_xor a b
applied Nor a b = 2 ^ 32 - 1 - bit_or a b
applied Less a b = word_less a b
applied LessUnsigned a b = word_less_unsigned a b
applied ShiftLeft a b = word_shift_left a b
applied ShiftRight a b = word_shift_right a b
applied ShiftRightSigned a b = word_shift_right_signed a b

-- the value of a node: of the k-th input, counted from 0, the k-th word, where k inputs stand before it; of a constant its word; of an
-- operation what it makes of the values of two nodes before it
abbrev pub value_of : List ℕ → ℕ → List ℕ → Node → ℕ
value_of inputs k before Input = slice_index inputs k
value_of inputs k before (Const word) = word
value_of inputs k before (Apply op a b) = applied op (slice_index before a) (slice_index before b)

-- the values of nodes behind those of the nodes before them, among which there are k inputs
abbrev pub values_from : List ℕ → ℕ → List ℕ → List Node → List ℕ
values_from inputs k before [] = before
values_from inputs k before (node ∷ nodes) = values_from inputs (with_input node k) (before ++ value_of inputs k before node ∷ []) nodes

-- the values of all nodes
unfoldable pub values_of : Dataflow → List ℕ → List ℕ
values_of flow inputs = values_from inputs 0 [] flow.nodes

-- the values of the outs, in their order
abbrev pub outs_of : Dataflow → List ℕ → List ℕ
outs_of flow inputs = map (λ v. slice_index (values_of flow inputs) v) flow.outs
