-- Tokens and lines as places in the bytes, and what they stand for.
use Rattle.std.specs.Prelude.{ℕ, ◌+◌, ◌<◌, ◌≤◌, not, List, length, drop, map, slice_range, slice_index_or}
use Rattle.std.specs.List.{before_first}
use Rattle.raw_text.specs.Lines.{is_solid}
use Rattle.raw_text.specs.declared.lines.Line.{Line}

-- the bytes of the token that begins at a place: those from there on, as far as a token may hold them
abbrev pub token_at : List ℕ → ℕ → List ℕ
token_at bytes start = before_first (λ b. not (is_solid b)) (drop start bytes)

-- the tokens of a line, each as its bytes; they begin at its part of these places
abbrev pub line_tokens : List ℕ → List ℕ → Line → List (List ℕ)
line_tokens bytes starts line = map (token_at bytes) (slice_range starts line.first line.end)

-- a token that begins within the bytes and is not empty
pub record BeginsToken (bytes : List ℕ) (start : ℕ) : Type 0 where
  pub within : start < length bytes
  pub some : 0 < length (token_at bytes start)

-- each token ends before those after it begin
abbrev pub AreInOrder : List ℕ → List ℕ → Type 0
AreInOrder bytes starts = (i j : ℕ) (d : ℕ) → i < j → j < length starts →
    slice_index_or starts i d + length (token_at bytes (slice_index_or starts i d)) < slice_index_or starts j d

-- a line's tokens are among so many
pub record IsPart (count : ℕ) (line : Line) : Type 0 where
  pub order : line.first ≤ line.end
  pub within : line.end ≤ count

-- the tokens of each line stand before those of the lines after it
abbrev pub AreLinesInOrder : List Line → Type 0
AreLinesInOrder lines = (i j : ℕ) (d : Line) → i < j → j < length lines → (slice_index_or lines i d).end ≤ (slice_index_or lines j d).first
