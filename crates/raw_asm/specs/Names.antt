-- Names of labels, and the two parts of a line: its label and its statement.
use Rattle.std.specs.Prelude.{ℕ, ◌-◌, Bool, ◌&&◌, ◌||◌, ◌==◌, List, [], ◌∷◌, length, take, drop, codes, Option, Some, None, nat_le, slice_index, if◌then◌else◌}
use Rattle.std.specs.List.{list_all}
use Rattle.std.specs.Str.{bytes_eq}

-- an ASCII letter or '_'
abbrev pub is_letter : ℕ → Bool
is_letter b = (nat_le 65 b && nat_le b 90) || (nat_le 97 b && nat_le b 122) || (b == 95)

-- a decimal digit
abbrev pub is_decimal : ℕ → Bool
is_decimal b = nat_le 48 b && nat_le b 57

-- letters, '_' and digits alone
abbrev pub are_name_bytes : List ℕ → Bool
are_name_bytes bytes = list_all (λ b. is_letter b || is_decimal b) bytes

-- the name of a label: a letter or '_', followed by letters, '_' and digits
unfoldable pub is_name : List ℕ → Bool
is_name bytes = is_letter (slice_index bytes 0) && are_name_bytes bytes

-- where a label or a number may stand, a token that begins so is no label: a digit or '-'
abbrev pub starts_number : List ℕ → Bool
starts_number token = is_decimal (slice_index token 0) || (slice_index token 0 == 45)

-- the bytes end with these
abbrev pub ends_with : List ℕ → List ℕ → Bool
ends_with back bytes = bytes_eq (drop (length bytes - length back) bytes) back

-- the label of a line: a first token that ends with ':', without it, be it a name or not
abbrev pub label_of : List (List ℕ) → Option (List ℕ)
label_of [] = None
label_of (token ∷ tokens) = if ends_with (codes ":") token then Some (take (length token - 1) token) else None

-- the statement of a line: its tokens behind the label
abbrev pub statement_of : List (List ℕ) → List (List ℕ)
statement_of [] = []
statement_of (token ∷ tokens) = if ends_with (codes ":") token then tokens else token ∷ tokens
