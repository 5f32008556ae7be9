-- What the lines of a claim of rows mean, and their least fault: a set, the mark `claim`, and a stream on a grid of the set's size, whose sources and
-- sinks are ports of the set.
use Rattle.std.specs.Prelude.{◌⊎◌, ℕ, ◌+◌, Bool, false, List, codes, drop, Option, Some, None}
use Rattle.raw_model.specs.Program.{ProgramSet, IsSet}
use Rattle.raw_set_text.specs.declared.kind.SetKind.{SetKind}
use Rattle.raw_set_text.specs.declared.kind.SetRefusal.{SetRefusal}
use Rattle.raw_flow_text.specs.Causes.{IsCauseOf}
use Rattle.raw_claim_text.specs.Marked.{FaultBefore, IsBehind, IsFaultBehind}
use Rattle.raw_claim_text.specs.Meaning.{claim_in}
use Rattle.raw_stream_text.specs.Streams.{FedStream}
use Rattle.raw_stream_text.specs.Meaning as stream_text

-- there is a mark, and the lines behind it are those of a stream
abbrev pub are_rows : Option ℕ → List (List (List ℕ)) → Bool
are_rows None lines = false
are_rows (Some place) lines = stream_text.is_stream (drop (place + 1) lines)

abbrev pub has_rows : List (List (List ℕ)) → Bool
has_rows lines = are_rows (claim_in lines) lines

-- what the lines behind the mark mean as a claim of the set, and their least fault
abbrev pub Claims : List (List (List ℕ)) → ℕ → ProgramSet → FedStream → Type 0
Claims lines place set fed = stream_text.IsMeaning (Some set.topo) (drop (place + 1) lines) fed

abbrev pub ClaimsNot : List (List (List ℕ)) → ℕ → ProgramSet → ℕ → SetKind → Type 0
ClaimsNot lines place set line kind = stream_text.IsFault (Some set.topo) (place + 1) (drop (place + 1) lines) line kind

-- the lines say this set and this stream: those before the mark mean the set, and those behind it the stream, as a claim of the set
abbrev pub Says : List (List (List ℕ)) → ProgramSet × FedStream → Type 0
Says lines said = IsBehind (codes "claim") Claims lines said

-- the set keeps all that sets keep, and the stream all that streams keep that are claimed of the set
abbrev pub IsSaid : ProgramSet × FedStream → Type 0
IsSaid said = IsSet said.0 × stream_text.IsFed (Some said.0.topo) said.1

-- the least fault of the lines is this one, at this line, which is counted from 1: a fault of the set before the mark, or no mark,
-- comes before those of the claim
abbrev pub IsFault : List (List (List ℕ)) → ℕ → SetKind → Type 0
IsFault lines line kind = FaultBefore (claim_in lines) lines line kind ⊎ IsFaultBehind (codes "claim") ClaimsNot lines line kind

-- a refusal names the least fault, or is want of memory
abbrev pub IsCause : List (List (List ℕ)) → SetRefusal → Type 0
IsCause lines refusal = IsCauseOf (IsFault lines) refusal
