-- What the lines of a set mean, and their least fault: statements about all lines at once.
use Rattle.std.specs.Prelude.{◌≡◌, ℕ, ◌<◌, List, length, Option, None, nat_lt, if◌then◌else◌}
use Rattle.raw_answer.specs.OneAnswer.{HasOneAnswer}
use Rattle.raw_answer.specs.Places.{IsLeastFrom}
use Rattle.raw_model.specs.Program.{ProgramSet, IsSet}
use Rattle.raw_set_text.specs.declared.kind.SetKind.{SetKind}
use Rattle.raw_set_text.specs.declared.kind.SetRefusal.{SetRefusal}
use Rattle.raw_set_text.specs.declared.kind.SetRefusal.TheVariants.{At, Memory}
use Rattle.raw_set_text.specs.Entries.{set_of}
use Rattle.raw_set_text.specs.Sections.{entries_before, fault_at, end_fault}

-- none of the first n lines has a fault
abbrev pub AreFaultless : List (List (List ℕ)) → ℕ → Type 0
AreFaultless lines n = (k : ℕ) → k < n → fault_at lines k ≡ None

-- the lines mean this set: none has a fault, nothing is missing at the end, and it is the set that their
-- entries declare
pub record IsMeaning (lines : List (List (List ℕ))) (set : ProgramSet) : Type 0 where
  pub faultless : AreFaultless lines (length lines)
  pub ended : end_fault lines ≡ None
  pub set_is : set ≡ set_of (entries_before lines (length lines))

-- what is wrong at a place: with a line, or behind the last
abbrev pub place_fault : List (List (List ℕ)) → ℕ → Option SetKind
place_fault lines k = if nat_lt k (length lines) then fault_at lines k else end_fault lines

-- the least faulty line, counted from 1, and its fault; the place behind the last line is one too
abbrev pub IsFault : List (List (List ℕ)) → ℕ → SetKind → Type 0
IsFault lines line kind = IsLeastFrom (place_fault lines) (length lines) 0 line kind

-- a refusal names the least faulty line and its fault, or is want of memory
abbrev pub IsCause : List (List (List ℕ)) → SetRefusal → Type 0
IsCause lines (At line kind) = IsFault lines line kind
IsCause lines Memory = Unit {0}

-- the lines mean exactly one set, which keeps all that sets keep, or have exactly one least fault, and not both
abbrev pub IsOneSet : List (List (List ℕ)) → Type 0
IsOneSet lines = HasOneAnswer (IsMeaning lines) (IsFault lines) IsSet
