-- The set and the claim that an input says: a flow, with the places of its outs or with none, or a stream.
use Rattle.std.specs.Prelude.{◌≡◌, ℕ, Bool, true, false, Some, List}
use Rattle.raw_model.specs.Program.{ProgramSet}
use Rattle.raw_set_text.specs.declared.kind.SetKind.{SetKind}
use Rattle.raw_set_text.specs.Texts.{token_lines}
use Rattle.raw_flow.specs.Flows.{Dataflow}
use Rattle.raw_term.specs.declared.place.Place.{Place}
use Rattle.raw_claim_text.specs.Texts.{ClaimMeaning, ClaimFault}
use Rattle.raw_stream_text.specs.Streams.{FedStream}
use Rattle.raw_stream_text.specs.Meaning.{IsFed}
use Rattle.raw_row_claim_text.specs.Meaning.{has_rows}
use Rattle.raw_row_claim_text.specs.Texts.{RowMeaning, RowFault}
use Rattle.raw_inputs.specs.declared.claims.Claimed.{Claimed}
use Rattle.raw_inputs.specs.declared.claims.Claimed.TheVariants.{Flow, Rows}

-- the lines behind the mark `claim` are those of a stream
abbrev pub says_rows : List ℕ → Bool
says_rows input = has_rows (token_lines input)

-- the input says this set and some claim, by whether that is a stream
abbrev pub SaysClaimBy : Bool → List ℕ → ProgramSet → Type 0
SaysClaimBy false input set = (flow : Dataflow) × (places : List Place) × ClaimMeaning input set flow places
SaysClaimBy true input set = (fed : FedStream) × RowMeaning input set fed

-- the input says this set and some claim
abbrev pub SaysClaim : List ℕ → ProgramSet → Type 0
SaysClaim input set = SaysClaimBy (says_rows input) input set

-- the least fault of an input with a claim is this one, at this line, by whether the claim is a stream
abbrev pub IsClaimFaultBy : Bool → List ℕ → ℕ → SetKind → Type 0
IsClaimFaultBy false input line kind = ClaimFault input line kind
IsClaimFaultBy true input line kind = RowFault input line kind

-- the least fault of an input with a claim is this one, at this line
abbrev pub IsClaimFault : List ℕ → ℕ → SetKind → Type 0
IsClaimFault input line kind = IsClaimFaultBy (says_rows input) input line kind

-- a set with a flow, or with a stream, as they are read
pub record IsFlowClaim (input : List ℕ) (set : ProgramSet) (flow : Dataflow) (places : List Place) : Type 0 where
  pub kind : says_rows input ≡ false
  pub meaning : ClaimMeaning input set flow places

pub record IsRowClaim (input : List ℕ) (set : ProgramSet) (fed : FedStream) : Type 0 where
  pub kind : says_rows input ≡ true
  pub meaning : RowMeaning input set fed
  pub valid : IsFed (Some set.topo) fed

-- what was read is what the input says: a set with a flow, or with a stream
abbrev pub IsClaimed : List ℕ → Claimed → Type 0
IsClaimed input (Flow claim) = IsFlowClaim input claim.set claim.flow claim.places.items
IsClaimed input (Rows claim) = IsRowClaim input claim.set claim.input
