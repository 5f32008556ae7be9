-- What the lines of a claim mean, and their least fault: a set, the mark `claim`, and a flow on a grid of the set's size, whose outs may name
-- places.
use Rattle.std.specs.Prelude.{◌⊎◌, ℕ, ◌+◌, List, codes, drop, Option}
use Rattle.raw_model.specs.Program.{ProgramSet, IsSet}
use Rattle.raw_set_text.specs.declared.kind.SetKind.{SetKind}
use Rattle.raw_set_text.specs.declared.kind.SetRefusal.{SetRefusal}
use Rattle.raw_flow.specs.Flows.{Dataflow}
use Rattle.raw_flow_text.specs.Flows.{IsFed}
use Rattle.raw_flow_text.specs.Causes.{IsCauseOf}
use Rattle.raw_term.specs.declared.place.Place.{Place}
use Rattle.raw_claim_text.specs.Marked.{mark_in, FaultBefore, IsBehind, IsFaultBehind}
use Rattle.raw_claim_text.specs.Lines.{PlacedFlow}
use Rattle.raw_claim_text.specs.Lines as claim_text

-- where the mark is
abbrev pub claim_in : List (List (List ℕ)) → Option ℕ
claim_in lines = mark_in (codes "claim") lines

-- what the lines behind the mark mean for a set on its grid, and their least fault
abbrev pub Claims : List (List (List ℕ)) → ℕ → ProgramSet → PlacedFlow → Type 0
Claims lines place set claim = claim_text.IsMeaning set.topo (drop (place + 1) lines) claim

abbrev pub ClaimsNot : List (List (List ℕ)) → ℕ → ProgramSet → ℕ → SetKind → Type 0
ClaimsNot lines place set line kind = claim_text.IsFault set.topo (place + 1) (drop (place + 1) lines) line kind

-- the lines say this set, and of it this flow with words for its inputs, and the places of its outs: those before the mark mean the set, and
-- those behind it the flow and the places, for a set on this grid
abbrev pub Says : List (List (List ℕ)) → ProgramSet × PlacedFlow → Type 0
Says lines said = IsBehind (codes "claim") Claims lines said

-- the set keeps all that sets keep, and the flow all that flows keep
abbrev pub IsSaid : ProgramSet × PlacedFlow → Type 0
IsSaid said = IsSet said.0 × IsFed said.1.fed

-- the lines mean this set, this flow and these places of its outs: those before the mark mean the set, and those behind it the flow with
-- some words for its inputs, and the places, for a set on this grid
abbrev pub IsMeaning : List (List (List ℕ)) → ProgramSet → Dataflow → List Place → Type 0
IsMeaning lines set flow places = (inputs : List ℕ) × Says lines (set, record { fed = record { flow = flow; inputs = inputs }; places = places })

-- the least fault of the lines is this one, at this line, which is counted from 1: a fault of the set before the mark, or no mark,
-- comes before those of the claim
abbrev pub IsFault : List (List (List ℕ)) → ℕ → SetKind → Type 0
IsFault lines line kind = FaultBefore (claim_in lines) lines line kind ⊎ IsFaultBehind (codes "claim") ClaimsNot lines line kind

-- a refusal names the least fault, or is want of memory
abbrev pub IsCause : List (List (List ℕ)) → SetRefusal → Type 0
IsCause lines refusal = IsCauseOf (IsFault lines) refusal
