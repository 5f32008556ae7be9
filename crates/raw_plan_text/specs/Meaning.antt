-- What the lines of a plan mean, and their least fault: statements about all lines at once.
use Rattle.std.specs.Prelude.{ℕ, List, [], length, take, Option, Some, None, nat_lt, slice_index_or, if◌then◌else◌}
use Rattle.std.specs.List.{filter_map}
use Rattle.raw_answer.specs.OneAnswer.{HasOneAnswer}
use Rattle.raw_answer.specs.Places.{IsMeant, IsLeastFrom}
use Rattle.raw_grid.specs.Topology.{Topology}
use Rattle.raw_set_text.specs.declared.kind.SetKind.{SetKind}
use Rattle.raw_set_text.specs.declared.kind.SetKind.TheVariants.{Missing}
use Rattle.raw_set_text.specs.declared.kind.SetRefusal.{SetRefusal}
use Rattle.raw_set_text.specs.declared.kind.SetRefusal.TheVariants.{At, Memory}
use Rattle.raw_set_text.specs.Faults.{are_some}
use Rattle.raw_route.specs.Hauls.{Haulage}
use Rattle.raw_plan_text.specs.Plans.{HaulPlan, IsPlan}
use Rattle.raw_plan_text.specs.Forms.{Sent, Entry, line_entry}
use Rattle.raw_plan_text.specs.Forms.Entry.{Grid, Send}
use Rattle.raw_plan_text.specs.Faults.{grid_of, number_in, targets_in, line_fault}

-- what the lines declare
abbrev pub entries_of : List (List (List ℕ)) → List Entry
entries_of lines = filter_map line_entry lines

-- what is wrong with line k
unfoldable pub fault_at : List (List (List ℕ)) → ℕ → Option SetKind
fault_at lines k = line_fault (entries_of (take k lines)) (slice_index_or lines k [])

-- what is wrong behind the last line: there is no grid
unfoldable pub end_fault : List (List (List ℕ)) → Option SetKind
end_fault lines = if are_some (entries_of lines) then None else Some Missing

-- what is wrong at a place: with a line, or behind the last
abbrev pub place_fault : List (List (List ℕ)) → ℕ → Option SetKind
place_fault lines k = if nat_lt k (length lines) then fault_at lines k else end_fault lines

-- the haul of a word that is sent on a grid, by the numbers of its tiles
abbrev pub haul_of : Topology → Sent → Haulage
haul_of grid sent = record { from = number_in grid sent.from; net = sent.net; to = targets_in grid sent }

-- the haul and the word of an entry that sends one
abbrev pub haul_in : Topology → Entry → Option Haulage
haul_in grid (Grid columns rows) = None
haul_in grid (Send sent) = Some (haul_of grid sent)

abbrev pub word_in : Entry → Option ℕ
word_in (Grid columns rows) = None
word_in (Send sent) = Some sent.word

-- the plan that entries declare together: their grid, and the hauls and words of all that they send, in order
unfoldable pub plan_of : List Entry → HaulPlan
plan_of entries = record {
  cols = (grid_of entries).cols;
  rows = (grid_of entries).rows;
  hauls = filter_map (haul_in (grid_of entries)) entries;
  words = filter_map word_in entries;
}

-- the lines mean this plan: none has a fault, nothing is missing behind the last, and it is the plan that their entries
-- declare
abbrev pub IsMeaning : List (List (List ℕ)) → HaulPlan → Type 0
IsMeaning lines plan = IsMeant (place_fault lines) (length lines) (plan_of (entries_of lines)) plan

-- the least faulty line, counted from 1, and its fault; the place behind the last line is one too
abbrev pub IsFault : List (List (List ℕ)) → ℕ → SetKind → Type 0
IsFault lines line kind = IsLeastFrom (place_fault lines) (length lines) 0 line kind

-- a refusal names the least faulty line and its fault, or is want of memory
abbrev pub IsCause : List (List (List ℕ)) → SetRefusal → Type 0
IsCause lines (At line kind) = IsFault lines line kind
IsCause lines Memory = Unit {0}

-- the lines mean exactly one plan, which is as a planner asks, or have exactly one least fault, and not both
abbrev pub IsOnePlan : List (List (List ℕ)) → Type 0
IsOnePlan lines = HasOneAnswer (IsMeaning lines) (IsFault lines) IsPlan
