-- Classes: for terms of a table terms of the table as it has grown since, each with the same value under all words for the inputs.
use Rattle.std.specs.Prelude.{ℕ, ◌<◌, List, length, slice_index}
use Rattle.raw_flow.specs.declared.node.Node.{Node}
use Rattle.raw_term.specs.Values.{term_values, Holds, AreTerms}

-- under words for the inputs: the table has grown by terms alone, and the first terms, as many as there are classes, have classes with their values
pub record HaveClasses (inputs : List ℕ) (nodes table : List Node) (classes : List ℕ) : Type 0 where
  pub terms : AreTerms inputs table
  pub keeps : (c x : ℕ) → Holds (term_values inputs nodes) c x → Holds (term_values inputs table) c x
  pub each : (c x : ℕ) → c < length classes → Holds (term_values inputs nodes) c x → Holds (term_values inputs table) (slice_index classes c) x

-- each class is a term of the table with the same value as the term at its place, under all words
abbrev pub AreClasses : List Node → List Node → List ℕ → Type 0
AreClasses nodes table classes = (inputs : List ℕ) → AreTerms inputs nodes → HaveClasses inputs nodes table classes
