-- What a flow that is being built stands for: what the lines so far say.
use Rattle.std.specs.Prelude.{◌≡◌, ℕ, List, [], ◌∷◌, ◌++◌, length, Option, Some, None, Result, Ok, Err, OnOk, if◌then◌else◌}
use Rattle.std.specs.Option.{option_or}
use Rattle.std.specs.Str.{bytes_eq}
use Rattle.raw_asm.specs.NameTable.{value_in}
use Rattle.raw_set_text.specs.declared.kind.SetKind.{SetKind}
use Rattle.raw_set_text.specs.declared.kind.SetRefusal.{SetRefusal}
use Rattle.raw_set_text.specs.declared.kind.SetRefusal.TheVariants.{At, Memory}
use Rattle.raw_flow.specs.declared.node.Node.{Node}
use Rattle.raw_flow_text.specs.declared.builder.Builder.{Builder}
use Rattle.raw_flow_text.specs.Statement.{Statement}
use Rattle.raw_flow_text.specs.Flows.{size_in, names_in, number_in, nodes_in, outs_in, words_in}
use Rattle.raw_flow_text.specs.Faults.{statement_fault}

-- a flow that is being built, for these statements
pub record BuilderStands (builder : Builder) (said : List Statement) : Type 0 where
  pub size : builder.size ≡ size_in said
  pub numbers : (name : List ℕ) → value_in builder.numbers name ≡ number_in (names_in said) name
  pub nodes : builder.nodes.items ≡ nodes_in said
  pub outs : builder.outs.items ≡ outs_in said
  pub inputs : builder.inputs.items ≡ words_in said

-- the answer for the line of this number names this fault, or there is none; want of memory says nothing
abbrev pub Answers : {T : Type 0} → Result T SetRefusal → ℕ → Option SetKind → Type 0
Answers (Ok done) number fault = fault ≡ None
Answers (Err (At line kind)) number fault = (line ≡ number) × (fault ≡ Some kind)
Answers (Err Memory) number fault = Unit {0}

-- a statement is added, or the line of this number refused with its fault
pub record Adds {T : Type 0} (old new : Builder) (number : ℕ) (result : Result T SetRefusal) (statement : Statement) : Type 0 where
  pub fault : (said : List Statement) → BuilderStands old said → Answers result number (statement_fault said statement)
  pub stands : (said : List Statement) → BuilderStands old said → OnOk result (BuilderStands new (said ++ statement ∷ []))

-- a node with this name is added
pub record Defines (old new : Builder) (name : List ℕ) (node : Node) : Type 0 where
  pub size : new.size ≡ old.size
  pub numbers : (other : List ℕ) → value_in new.numbers other ≡ option_or (value_in old.numbers other) (if bytes_eq name other then Some (length old.nodes.items) else None)
  pub nodes : new.nodes.items ≡ old.nodes.items ++ node ∷ []
  pub outs : new.outs.items ≡ old.outs.items
  pub inputs : new.inputs.items ≡ old.inputs.items
