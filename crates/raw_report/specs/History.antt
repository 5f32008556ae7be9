-- Histories: lists of steps as text.
use Rattle.std.specs.Prelude.{◌≡◌, ℕ, ◌+◌, ◌<◌, nat_lt, Option, Some, None, List, [], ◌∷◌, ◌++◌, codes, decimal, length, slice_index_or, if◌then◌else◌}
use Rattle.std.specs.List.{flat_map}
use Rattle.std.specs.Option.{option_and_then, option_map}
use Rattle.raw_text.specs.Number.{number_of}
use Rattle.raw_report.specs.declared.history.HistoryRefusal.{HistoryRefusal}
use Rattle.raw_report.specs.declared.history.HistoryRefusal.TheVariants.{BadEntry, Memory}

-- the text of a list of steps: a line that says so, and a line for each step, the number of its processor
unfoldable pub history_text : List ℕ → List ℕ
history_text steps = codes "history\n" ++ flat_map (λ p. decimal p ++ codes "\n") steps

-- the number, where it is that of one of so many processors
abbrev pub within : ℕ → Option ℕ → Option ℕ
within procs None = None
within procs (Some n) = if nat_lt n procs then Some n else None

-- the step that a line with tokens says: one token, the number of one of so many processors
unfoldable pub entry_of : ℕ → List (List ℕ) → Option ℕ
entry_of procs (token ∷ []) = within procs (number_of token)
entry_of procs _ = None

-- the steps that lines say, where lines without tokens are passed over: none where some line says no step
abbrev pub entries_of : ℕ → List (List (List ℕ)) → Option (List ℕ)
entries_of procs [] = Some []
entries_of procs ([] ∷ lines) = entries_of procs lines
entries_of procs ((token ∷ tokens) ∷ lines) =
    option_and_then (λ p. option_map (λ steps. p ∷ steps) (entries_of procs lines)) (entry_of procs (token ∷ tokens))

-- the line at place k is the first that has tokens and says no step
pub record IsBadEntry (procs : ℕ) (lines : List (List (List ℕ))) (k : ℕ) : Type 0 where
  pub within : k < length lines
  pub some : 0 < length (slice_index_or lines k [])
  pub no_step : entry_of procs (slice_index_or lines k []) ≡ None
  pub before : (j : ℕ) → j < k → 0 < length (slice_index_or lines j []) → (p : ℕ) × (entry_of procs (slice_index_or lines j []) ≡ Some p)

-- the cause of a refusal: a bad entry, told by the number of its line where the lines come after so many
-- others and are counted from 1, or want of memory
abbrev pub IsCause : ℕ → ℕ → List (List (List ℕ)) → HistoryRefusal → Type 0
IsCause procs from lines (BadEntry line) = (k : ℕ) × IsBadEntry procs lines k × (line ≡ from + k + 1)
IsCause procs from lines Memory = Unit {0}
