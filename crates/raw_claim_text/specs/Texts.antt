-- What the bytes of a claim mean, and their least fault.
use Rattle.std.specs.Prelude.{ℕ, List}
use Rattle.raw_answer.specs.OneAnswer.{HasOneAnswer}
use Rattle.raw_answer.specs.Texts.{TextMeans, TextFault}
use Rattle.raw_model.specs.Program.{ProgramSet}
use Rattle.raw_set_text.specs.declared.kind.SetKind.{SetKind}
use Rattle.raw_set_text.specs.declared.kind.SetKind.TheVariants.{NotAscii, LineTooLong}
use Rattle.raw_flow.specs.Flows.{Dataflow}
use Rattle.raw_term.specs.declared.place.Place.{Place}
use Rattle.raw_claim_text.specs.Meaning.{Says, IsSaid, IsFault}

-- the bytes mean this set, this flow and these places of its outs, with some words for its inputs: no line is faulty as a line of
-- text, and the lines mean them
abbrev pub ClaimMeaning : List ℕ → ProgramSet → Dataflow → List Place → Type 0
ClaimMeaning bytes set flow places = (inputs : List ℕ) × TextMeans Says bytes (set, record { fed = record { flow = flow; inputs = inputs }; places = places })

-- the least fault of the bytes is this one, at this line, which is counted from 1
abbrev pub ClaimFault : List ℕ → ℕ → SetKind → Type 0
ClaimFault bytes line kind = TextFault NotAscii LineTooLong IsFault bytes line kind

-- the bytes mean exactly one set with exactly one claim, which keep all that they are to keep, or have exactly one least fault, and not both
abbrev pub IsOneText : List ℕ → Type 0
IsOneText bytes = HasOneAnswer (TextMeans Says bytes) (ClaimFault bytes) IsSaid
