-- The values of the terms of a table under words for the inputs.
use Rattle.std.specs.Prelude.{◌≡◌, ℕ, ◌^◌, ◌<◌, Some, List, [], slice_get}
use Rattle.raw_flow.specs.declared.node.Node.{Node}
use Rattle.raw_flow.specs.declared.node.Node.TheVariants.{Const}
use Rattle.raw_flow.specs.Flows.{AreNodes, values_from}

abbrev pub term_values : List ℕ → List Node → List ℕ
term_values inputs nodes = values_from inputs 0 [] nodes

-- under values of terms, term c has the value x
abbrev pub Holds : List ℕ → ℕ → ℕ → Type 0
Holds values c x = slice_get values c ≡ Some x

-- a table whose first term is 0, and whose values are words
pub record AreTerms (inputs : List ℕ) (nodes : List Node) : Type 0 where
  pub none : slice_get nodes 0 ≡ Some (Const 0)
  pub are : AreNodes nodes
  pub words : (c x : ℕ) → Holds (term_values inputs nodes) c x → x < 2 ^ 32
