-- What the lines behind the mark mean for a set on this grid, and their least fault: statements about all lines at once.
use Rattle.std.specs.Prelude.{ℕ, List, [], length, map, take, Option, Some, slice_index_or}
use Rattle.raw_answer.specs.OneAnswer.{HasOneAnswer}
use Rattle.raw_answer.specs.Places.{IsMeant, IsLeastFrom}
use Rattle.raw_grid.specs.Topology.{Topology}
use Rattle.raw_set_text.specs.declared.kind.SetKind.{SetKind}
use Rattle.raw_set_text.specs.declared.kind.SetRefusal.{SetRefusal}
use Rattle.raw_flow_text.specs.Flows.{FedFlow, IsFed}
use Rattle.raw_flow_text.specs.Meaning as flow
use Rattle.raw_flow_text.specs.Causes.{IsCauseOf}
use Rattle.raw_term.specs.declared.place.Place.{Place}
use Rattle.raw_claim_text.specs.Forms.{plain_line}
use Rattle.raw_claim_text.specs.Placing.{place_said, said_places, line_fault}

-- a flow with the words of its inputs, and the places of its outs, or none
pub record PlacedFlow : Type 0 where
  pub fed : FedFlow
  pub places : List Place

-- the columns and rows of a grid
abbrev pub size_of : Topology → ℕ × ℕ
size_of topo = (topo.cols, topo.rows)

-- what is wrong at the place k, counted from 0: with line k, or behind the last line
unfoldable pub fault_at : Topology → List (List (List ℕ)) → ℕ → Option SetKind
fault_at topo lines k =
    line_fault (flow.fault_at (Some (size_of topo)) (map plain_line lines) k) (place_said topo (said_places topo (take k lines)) (slice_index_or lines k []))

-- the flow that all lines define, and the places that they name
abbrev pub placed_in : Topology → List (List (List ℕ)) → PlacedFlow
placed_in topo lines = record { fed = flow.fed_in (map plain_line lines); places = (said_places topo lines).places }

-- the lines mean this: nothing is wrong with a line or behind the last, and it is what all lines say
abbrev pub IsMeaning : Topology → List (List (List ℕ)) → PlacedFlow → Type 0
IsMeaning topo lines claim = IsMeant (fault_at topo lines) (length lines) (placed_in topo lines) claim

-- the least faulty line, counted from 1, where the lines come after so many others, and its fault; the place behind the last line is one too
abbrev pub IsFault : Topology → ℕ → List (List (List ℕ)) → ℕ → SetKind → Type 0
IsFault topo from lines line kind = IsLeastFrom (fault_at topo lines) (length lines) from line kind

-- a refusal names the least faulty line and its fault, or is want of memory
abbrev pub IsCause : Topology → ℕ → List (List (List ℕ)) → SetRefusal → Type 0
IsCause topo from lines refusal = IsCauseOf (IsFault topo from lines) refusal

-- the lines mean exactly one flow with its places, which keeps all that flows keep, or have exactly one least fault, and not both
abbrev pub IsOneClaim : Topology → ℕ → List (List (List ℕ)) → Type 0
IsOneClaim topo from lines = HasOneAnswer (IsMeaning topo lines) (IsFault topo from lines) (λ claim. IsFed claim.fed)
