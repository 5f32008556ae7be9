-- What bytes mean as a text: lines of tokens, or the first faulty line.
use Rattle.std.specs.Prelude.{◌≡◌, ℕ, ◌+◌, ◌<◌, ◌≤◌, Bool, true, not, ◌&&◌, ◌||◌, List, [], ◌∷◌, ◌++◌, length, Option, Some, None, nat_lt, nat_le, ◌==◌, if◌then◌else◌}
use Rattle.std.specs.Option.{option_or}
use Rattle.std.specs.List.{slice_split, before_first, filter, list_all, flat_map, join_by}
use Rattle.raw_text.specs.declared.limits.TheConstants.{MAX_LINE}
use Rattle.raw_text.specs.declared.lines.TextRefusal.{TextRefusal}
use Rattle.raw_text.specs.declared.lines.TextRefusal.TheVariants.{NotAscii, LineTooLong, Memory}

-- the byte that ends a line
abbrev pub is_newline : ℕ → Bool
is_newline b = b == 10

-- the byte that begins a comment
abbrev pub is_hash : ℕ → Bool
is_hash b = b == 35

-- a tab, a carriage return, a space or a comma
abbrev pub is_blank : ℕ → Bool
is_blank b = (b == 9) || (b == 13) || (b == 32) || (b == 44)

-- a byte that a line may hold: a tab, a carriage return, or a space or printed character
abbrev pub is_plain : ℕ → Bool
is_plain b = (b == 9) || (b == 13) || (nat_le 32 b && nat_le b 126)

-- a byte that a token may hold: a plain one, neither blank nor '#'
abbrev pub is_solid : ℕ → Bool
is_solid b = is_plain b && not (is_blank b) && not (is_hash b)

-- all pieces but an empty one at the end
abbrev pub without_empty_last : List (List ℕ) → List (List ℕ)
without_empty_last [] = []
without_empty_last (piece ∷ []) = if length piece == 0 then [] else piece ∷ []
without_empty_last (piece ∷ next ∷ more) = piece ∷ without_empty_last (next ∷ more)

-- a line ends at a newline, and a last piece that is not empty is a line
unfoldable pub lines_of : List ℕ → List (List ℕ)
lines_of bytes = without_empty_last (slice_split is_newline bytes)

-- the longest runs of bytes without blanks
unfoldable pub runs_of : List ℕ → List (List ℕ)
runs_of bytes = filter (λ run. nat_lt 0 (length run)) (slice_split is_blank bytes)

-- the tokens of a line: the runs before any '#'
abbrev pub tokens_of : List ℕ → List (List ℕ)
tokens_of line = runs_of (before_first is_hash line)

-- what is wrong with the line of this number: another byte, or else more than 1,000 bytes
abbrev pub line_fault : ℕ → List ℕ → Option TextRefusal
line_fault number line =
    if list_all is_plain line then (if nat_le (length line) MAX_LINE then None else Some (LineTooLong number))
    else Some (NotAscii number)

-- the fault of the first faulty line, where the lines are numbered from here on
abbrev pub first_fault : ℕ → List (List ℕ) → Option TextRefusal
first_fault number [] = None
first_fault number (line ∷ lines) = option_or (line_fault number line) (first_fault (number + 1) lines)

-- a refusal is the fault that there is, or want of memory
abbrev pub IsCause : TextRefusal → Option TextRefusal → Type 0
IsCause (NotAscii line) fault = fault ≡ Some (NotAscii line)
IsCause (LineTooLong line) fault = fault ≡ Some (LineTooLong line)
IsCause Memory fault = Unit {0}

-- bytes that a line may hold, each of them
abbrev pub IsPlain : List ℕ → Type 0
IsPlain bytes = list_all is_plain bytes ≡ true

-- a line without a fault
pub record IsLine (line : List ℕ) : Type 0 where
  pub plain : IsPlain line
  pub short : length line ≤ MAX_LINE

-- bytes that a line holds as one token
pub record IsToken (token : List ℕ) : Type 0 where
  pub some : 0 < length token
  pub solid : list_all is_solid token ≡ true

-- each line, and a newline after it
unfoldable pub written_lines : List (List ℕ) → List ℕ
written_lines lines = flat_map (λ line. line ++ 10 ∷ []) lines

-- the tokens in a row, with the separator between each two
abbrev pub joined : List ℕ → List (List ℕ) → List ℕ
joined separator tokens = join_by (λ token. token) separator tokens
