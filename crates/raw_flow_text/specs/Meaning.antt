-- What the lines of a flow text mean, and their least fault: statements about all lines at once. Where a size is wanted, a
-- line that gives the grid another one is faulty.
use Rattle.std.specs.Prelude.{ℕ, List, [], length, take, Option, nat_lt, slice_index_or, if◌then◌else◌}
use Rattle.std.specs.List.{filter_map}
use Rattle.raw_answer.specs.OneAnswer.{HasOneAnswer}
use Rattle.raw_answer.specs.Places.{IsMeant, IsLeastFrom}
use Rattle.raw_set_text.specs.declared.kind.SetKind.{SetKind}
use Rattle.raw_set_text.specs.declared.kind.SetRefusal.{SetRefusal}
use Rattle.raw_flow_text.specs.Statement.{Statement}
use Rattle.raw_flow_text.specs.Forms.{line_statement}
use Rattle.raw_flow_text.specs.Flows.{FedFlow, IsFed, fed_by}
use Rattle.raw_flow_text.specs.Faults.{line_fault, end_fault}
use Rattle.raw_flow_text.specs.Causes.{IsCauseOf}

-- what the first k lines say
abbrev pub said_before : List (List (List ℕ)) → ℕ → List Statement
said_before lines k = filter_map line_statement (take k lines)

-- what is wrong at the place k, counted from 0: with line k, or behind the last line
unfoldable pub fault_at : Option (ℕ × ℕ) → List (List (List ℕ)) → ℕ → Option SetKind
fault_at wanted lines k =
    if nat_lt k (length lines) then line_fault wanted (said_before lines k) (slice_index_or lines k []) else end_fault (said_before lines k)

-- the flow that all lines define, with its words
abbrev pub fed_in : List (List (List ℕ)) → FedFlow
fed_in lines = fed_by (said_before lines (length lines))

-- the lines mean this flow with these words: nothing is wrong with a line or behind the last, and it is what all lines define
abbrev pub IsMeaning : Option (ℕ × ℕ) → List (List (List ℕ)) → FedFlow → Type 0
IsMeaning wanted lines fed = IsMeant (fault_at wanted lines) (length lines) (fed_in lines) fed

-- the least faulty line, counted from 1, where the lines come after so many others, and its fault; the place behind the last
-- line is one too
abbrev pub IsFault : Option (ℕ × ℕ) → ℕ → List (List (List ℕ)) → ℕ → SetKind → Type 0
IsFault wanted from lines line kind = IsLeastFrom (fault_at wanted lines) (length lines) from line kind

-- a refusal names the least faulty line and its fault, or is want of memory
abbrev pub IsCause : Option (ℕ × ℕ) → ℕ → List (List (List ℕ)) → SetRefusal → Type 0
IsCause wanted from lines refusal = IsCauseOf (IsFault wanted from lines) refusal

-- the lines mean exactly one flow with its words, which keeps all that such flows keep, or have exactly one least fault, and not both
abbrev pub IsOneFlow : Option (ℕ × ℕ) → ℕ → List (List (List ℕ)) → Type 0
IsOneFlow wanted from lines = HasOneAnswer (IsMeaning wanted lines) (IsFault wanted from lines) IsFed
