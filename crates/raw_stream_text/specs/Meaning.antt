-- What the lines of the text of a stream mean, and their least fault: statements about all lines at once. Where a set is claimed, the text is a claim
-- of it, and its topology is looked at.
use Rattle.std.specs.Prelude.{◌≡◌, ◌⊎◌, ℕ, ◌<◌, ◌^◌, Bool, true, List, [], length, take, Option, Some, None, nat_lt, codes, slice_index_or, All, if◌then◌else◌}
use Rattle.std.specs.List.{filter_map, filter, list_any}
use Rattle.std.specs.Str.{bytes_eq}
use Rattle.raw_answer.specs.OneAnswer.{HasOneAnswer}
use Rattle.raw_answer.specs.Places.{IsMeant, IsLeastFrom}
use Rattle.raw_grid.specs.declared.parts.PortPlace.{PortPlace}
use Rattle.raw_grid.specs.Topology.{Topology}
use Rattle.raw_set_text.specs.declared.kind.SetKind.{SetKind}
use Rattle.raw_set_text.specs.declared.kind.SetRefusal.{SetRefusal}
use Rattle.raw_set_text.specs.Entry.{same_place}
use Rattle.raw_flow_text.specs.Causes.{IsCauseOf}
use Rattle.raw_stream.specs.Unrolled.{word_count}
use Rattle.raw_stream.specs.Kept.{IsStream}
use Rattle.raw_stream_text.specs.Statement.{Statement}
use Rattle.raw_stream_text.specs.Forms.{line_statement}
use Rattle.raw_stream_text.specs.Streams.{FedStream, fed_by}
use Rattle.raw_stream_text.specs.Faults.{line_fault, end_fault}

-- the text is that of a stream: its second line with tokens begins with `rows`
abbrev pub has_tokens : List (List ℕ) → Bool
has_tokens line = nat_lt 0 (length line)

abbrev pub is_stream : List (List (List ℕ)) → Bool
is_stream lines = bytes_eq (slice_index_or (slice_index_or (filter has_tokens lines) 1 []) 0 []) (codes "rows")

-- what the first k lines say, and what all say
abbrev pub said_before : List (List (List ℕ)) → ℕ → List Statement
said_before lines k = filter_map line_statement (take k lines)

abbrev pub said_in : List (List (List ℕ)) → List Statement
said_in lines = filter_map line_statement lines

-- what is wrong at the place k, counted from 0: with line k, or behind the last line
unfoldable pub fault_at : Option Topology → List (List (List ℕ)) → ℕ → Option SetKind
fault_at claimed lines k =
    if nat_lt k (length lines) then line_fault claimed (said_in lines) (said_before lines k) (slice_index_or lines k []) else end_fault claimed (said_in lines)

-- the lines mean this stream with these words: nothing is wrong with a line or behind the last, and it is what all lines define
abbrev pub IsMeaning : Option Topology → List (List (List ℕ)) → FedStream → Type 0
IsMeaning claimed lines fed = IsMeant (fault_at claimed lines) (length lines) (fed_by (said_in lines)) fed

-- the least faulty line, counted from 1, where the lines come after so many others, and its fault; the place behind the last line is one too
abbrev pub IsFault : Option Topology → ℕ → List (List (List ℕ)) → ℕ → SetKind → Type 0
IsFault claimed from lines line kind = IsLeastFrom (fault_at claimed lines) (length lines) from line kind

-- a refusal names the least faulty line and its fault, or is want of memory
abbrev pub IsCause : Option Topology → ℕ → List (List (List ℕ)) → SetRefusal → Type 0
IsCause claimed from lines refusal = IsCauseOf (IsFault claimed from lines) refusal

-- some port of a set stands at the place
abbrev pub IsPortOf : Topology → PortPlace → Type 0
IsPortOf topo place = list_any (same_place place) topo.places ≡ true

-- the sources have as many words as all rows take, but for a claim that feeds none
abbrev pub HasWords : Option Topology → FedStream → Type 0
HasWords None fed = length fed.words ≡ word_count fed.stream
HasWords (Some topo) fed = (length fed.words ≡ word_count fed.stream) ⊎ (fed.words ≡ [])

-- the sources and sinks stand at ports of the set that is claimed, where one is
abbrev pub HasPorts : Option Topology → FedStream → Type 0
HasPorts None fed = Unit {0}
HasPorts (Some topo) fed = All (IsPortOf topo) fed.stream.sources × All (IsPortOf topo) fed.stream.sinks

-- the stream keeps all that streams keep, and so do the words of its sources
pub record IsFed (claimed : Option Topology) (fed : FedStream) : Type 0 where
  pub stream : IsStream fed.stream
  pub words : All (λ word. word < 2 ^ 32) fed.words
  pub enough : HasWords claimed fed
  pub ports : HasPorts claimed fed

-- the lines mean exactly one stream with its words, which keeps all that streams keep, or have exactly one least fault, and not both
abbrev pub IsOneStream : Option Topology → ℕ → List (List (List ℕ)) → Type 0
IsOneStream claimed from lines = HasOneAnswer (IsMeaning claimed lines) (IsFault claimed from lines) (IsFed claimed)
