-- A set against a claim: a flow whose inputs are the words of all sources of the set, and whose outs are claimed of the words at places of the
-- set at rest. Where no places are named, these are the words that all its sinks receive, those of the first port first.
use Rattle.std.specs.Prelude.{◌≡◌, ℕ, ◌+◌, ◌^◌, ◌<◌, Some, None, List, [], ◌∷◌, ◌++◌, length, map, slice_get, slice_index}
use Rattle.std.specs.List.{All}
use Rattle.raw_model.specs.Program.{ProgramSet, IsSet}
use Rattle.raw_model.specs.Start.{MachineState}
use Rattle.raw_model.specs.Rest.{IsRun, end}
use Rattle.raw_model.specs.Outcomes.{Done, outcome}
use Rattle.raw_model.specs.Bounds.{all_words}
use Rattle.raw_flow.specs.declared.node.Node.{Node}
use Rattle.raw_flow.specs.declared.node.Node.TheVariants.{Input, Const, Apply}
use Rattle.raw_flow.specs.Flows.{Dataflow, with_input, outs_of}
use Rattle.raw_term.specs.Terms.{Numbered, with_node, made}
use Rattle.raw_model.specs.Fed.{fed}
use Rattle.raw_term.specs.TermMachine.{TermState}
use Rattle.raw_term.specs.declared.place.Place.{Place}
use Rattle.raw_term.specs.Seen.{miscount, seen}

-- a table, and the numbers of the terms of the nodes of a flow
pub record ClaimTerms : Type 0 where
  pub nodes : List Node
  pub numbers : List ℕ

-- the term of a node, where k inputs and nodes with the terms `before` stand before it; the k-th input has the number 1 + k
abbrev pub claim_node : List Node → ℕ → List ℕ → Node → Numbered
claim_node nodes k before Input = record { nodes = nodes; number = 1 + k }
claim_node nodes k before (Const word) = with_node nodes (Const word)
claim_node nodes k before (Apply op a b) = made nodes op (slice_index before a) (slice_index before b)

abbrev pub claim_from : List Node → ℕ → List ℕ → List Node → ClaimTerms
claim_from nodes k before [] = record { nodes = nodes; numbers = before }
claim_from nodes k before (node ∷ more) =
    claim_from (claim_node nodes k before node).nodes (with_input node k) (before ++ (claim_node nodes k before node).number ∷ []) more

-- the terms of the nodes of a claim, made in the table of a state
abbrev pub claim_terms : TermState → Dataflow → ClaimTerms
claim_terms s flow = claim_from s.nodes 0 [] flow.nodes

-- the terms of its outs
abbrev pub claimed : TermState → Dataflow → List ℕ
claimed s flow = map (λ v. slice_index (claim_terms s flow).numbers v) flow.outs

-- a state in which all is done, each sink has as many words as are claimed of it, and at the places are the values of the outs under these
-- inputs
pub record IsRightAt (set : ProgramSet) (flow : Dataflow) (places : List Place) (inputs : List ℕ) (s : MachineState) : Type 0 where
  pub done : outcome (fed set inputs) s ≡ Done
  pub counts : miscount places s.locals ≡ None
  pub values : seen places s ≡ outs_of flow inputs

-- where no places are named: the sinks have the values
abbrev pub IsRight : ProgramSet → Dataflow → List ℕ → MachineState → Type 0
IsRight set flow inputs s = IsRightAt set flow [] inputs s

-- as many words as the sources of the set have
pub record AreWords (set : ProgramSet) (inputs : List ℕ) : Type 0 where
  pub each : length inputs ≡ all_words set
  pub words : All (λ word. word < 2 ^ 32) inputs

-- with these words in its sources it is a set, some list of its steps comes to rest, and each that does ends right
pub record IsMetBy (set : ProgramSet) (flow : Dataflow) (places : List Place) (inputs : List ℕ) : Type 0 where
  pub valid : IsSet (fed set inputs)
  pub some : (steps : List ℕ) × IsRun (fed set inputs) steps
  pub right : (steps : List ℕ) → IsRun (fed set inputs) steps → IsRightAt set flow places inputs (end (fed set inputs) steps)

-- the set meets the claim under all words
abbrev pub MeetsAt : ProgramSet → Dataflow → List Place → Type 0
MeetsAt set flow places = (inputs : List ℕ) → AreWords set inputs → IsMetBy set flow places inputs

-- where no places are named
abbrev pub Meets : ProgramSet → Dataflow → Type 0
Meets set flow = MeetsAt set flow []

-- the constants of a flow are words
abbrev pub IsConstant : Dataflow → Type 0
IsConstant flow = (v word : ℕ) → slice_get flow.nodes v ≡ Some (Const word) → word < 2 ^ 32
