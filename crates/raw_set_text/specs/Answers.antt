-- What reading a line and adding its entry answer.
use Rattle.std.specs.Prelude.{◌≡◌, ℕ, ◌+◌, List, [], ◌∷◌, ◌++◌, Option, Some, None, Result, Ok, Err, nat_lt, if◌then◌else◌}
use Rattle.raw_set_text.specs.declared.kind.SetKind.{SetKind}
use Rattle.raw_set_text.specs.declared.kind.SetKind.TheVariants.{BadLine, Repeated, OverLimit}
use Rattle.raw_set_text.specs.declared.refused.LineRefusal.{LineRefusal}
use Rattle.raw_set_text.specs.declared.refused.LineRefusal.TheVariants.{Fault, Memory}
use Rattle.raw_set_text.specs.declared.declaration.Line.{Line}
use Rattle.raw_set_text.specs.Entry.{Entry, said_by}
use Rattle.raw_set_text.specs.Faults.{fault_if, is_repeated, is_over_limit}

-- a line is read as this entry, or is of another form; want of memory says nothing
abbrev pub ReadsAs : Result Line LineRefusal → Option Entry → Type 0
ReadsAs (Ok line) meant = meant ≡ Some (said_by line)
ReadsAs (Err (Fault kind)) meant = (kind ≡ BadLine) × (meant ≡ None)
ReadsAs (Err Memory) meant = Unit {0}

-- a refusal names this fault; want of memory says nothing
abbrev pub Names : LineRefusal → Option SetKind → Type 0
Names (Fault kind) fault = fault ≡ Some kind
Names Memory fault = Unit {0}

-- the answer names this fault, or there is none
abbrev pub Answers : {T : Type 0} → Result T LineRefusal → Option SetKind → Type 0
Answers (Ok done) fault = fault ≡ None
Answers (Err refusal) fault = Names refusal fault

-- the faults of an entry behind those of its place
abbrev pub late_fault : List Entry → Entry → Option SetKind
late_fault entries entry = fault_if (is_repeated entries entry) Repeated (fault_if (is_over_limit entries entry) OverLimit None)

-- the entries with one more
abbrev pub with_entry : List Entry → Entry → List Entry
with_entry entries entry = entries ++ entry ∷ []

-- the total with so many more, where it stays within this most
abbrev pub sum_within : ℕ → ℕ → ℕ → Option ℕ
sum_within most total added = if nat_lt most (total + added) then None else Some (total + added)
