-- What the lines of a section mean, and which faults they have: statements about all lines at once.
use Rattle.std.specs.Prelude.{◌≡◌, ℕ, ◌+◌, ◌<◌, zero, suc, Bool, false, ◌&&◌, List, [], ◌++◌, length, take, Option, Some, None, Result, Ok, Err, nat_le, slice_index_or, if◌then◌else◌}
use Rattle.std.specs.Option.{option_map, is_some}
use Rattle.std.specs.Result.{result_err, result_unwrap_or}
use Rattle.std.specs.List.{position, sum_by}
use Rattle.std.specs.Str.{bytes_eq}
use Rattle.raw_asm.specs.declared.kind.AsmKind.{AsmKind}
use Rattle.raw_asm.specs.declared.kind.AsmKind.TheVariants.{DoubleLabel, UnknownName, TooLong}
use Rattle.raw_asm.specs.Names.{is_name, label_of, statement_of}
use Rattle.raw_asm.specs.Faults.{◌>>=◌, unless_fault}
use Rattle.raw_asm.specs.Language.{Language}

-- how many instructions a line gives
abbrev pub size_of : {I : Type 0} → Language I → List (List ℕ) → ℕ
size_of language line = language.size (statement_of line)

-- the place at which a line's instructions stand: the sum of the sizes of the lines before it
abbrev pub place_of : {I : Type 0} → Language I → List (List (List ℕ)) → ℕ → ℕ
place_of language lines k = sum_by (size_of language) (take k lines)

-- a line's label is this name
abbrev pub is_label : List ℕ → Option (List ℕ) → Bool
is_label name None = false
is_label name (Some label) = bytes_eq label name && is_name name

-- a line defines the label of this name, whatever else is wrong with the line
abbrev pub has_label : List ℕ → List (List ℕ) → Bool
has_label name line = is_label name (label_of line)

-- the place for which a label stands: that of the first line which defines it
unfoldable pub label_place : {I : Type 0} → Language I → List (List (List ℕ)) → List ℕ → Option ℕ
label_place language lines name = option_map (place_of language lines) (position (has_label name) lines)

-- what is wrong with a line's label: it is no name, or an earlier line defines it
unfoldable pub label_fault : List (List (List ℕ)) → ℕ → Option (List ℕ) → Option AsmKind
label_fault lines k None = None
label_fault lines k (Some name) =
    if is_name name then (if is_some (position (has_label name) (take k lines)) then Some DoubleLabel else None)
    else Some UnknownName

-- the code, where a program that has it at this place has at most so many instructions
abbrev pub fitting : {I : Type 0} → ℕ → ℕ → List I → Result (List I) AsmKind
fitting most place code = if nat_le (place + length code) most then Ok code else Err TooLong

-- what a line of the section gives: the fault of its label, else that of its statement, else its code,
-- unless the program is too long with it
unfoldable pub line_code : {I : Type 0} → Language I → List (List (List ℕ)) → ℕ → Result (List I) AsmKind
line_code language lines k =
    unless_fault (label_fault lines k (label_of (slice_index_or lines k [])))
    (language.code (label_place language lines) (place_of language lines k) (statement_of (slice_index_or lines k []))
    >>= λ code. fitting language.most (place_of language lines k) code)

-- the code of the first n lines
abbrev pub code_upto : {I : Type 0} → Language I → List (List (List ℕ)) → ℕ → List I
code_upto language lines zero = []
code_upto language lines (suc n) = code_upto language lines n ++ result_unwrap_or (line_code language lines n) []

-- none of the first n lines has a fault
abbrev pub AreFaultless : {I : Type 0} → Language I → List (List (List ℕ)) → ℕ → Type 0
AreFaultless language lines n = (k : ℕ) → k < n → result_err (line_code language lines k) ≡ None

-- the lines mean this program: none has a fault, and it is the code of all of them in turn
pub record IsMeaning {I : Type 0} (language : Language I) (lines : List (List (List ℕ))) (program : List I) : Type 0 where
  pub faultless : AreFaultless language lines (length lines)
  pub code : program ≡ code_upto language lines (length lines)

-- the line at place k has this fault, and no line before it has any
pub record IsLeastFault {I : Type 0} (language : Language I) (lines : List (List (List ℕ))) (k : ℕ) (kind : AsmKind) : Type 0 where
  pub within : k < length lines
  pub here : result_err (line_code language lines k) ≡ Some kind
  pub before : AreFaultless language lines k
