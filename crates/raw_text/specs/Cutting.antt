-- What has been cut of the bytes so far.
use Rattle.std.specs.Prelude.{◌≡◌, ℕ, ◌+◌, ◌<◌, ◌≤◌, true, false, not, List, ◌++◌, length, drop, map, slice_range, slice_index_or}
use Rattle.std.specs.List.{All}
use Rattle.raw_text.specs.Lines.{is_solid, is_blank, is_newline, IsPlain}
use Rattle.raw_text.specs.Tokens.{token_at, BeginsToken, AreInOrder}

-- from start up to end there are blanks, and bytes that a token may hold, and end does not go on with a token
pub record IsCode (bytes : List ℕ) (start end : ℕ) : Type 0 where
  pub free : (k d : ℕ) → start ≤ k → k < end → is_solid (slice_index_or bytes k d) ≡ not (is_blank (slice_index_or bytes k d))
  pub ended : (d : ℕ) → end < length bytes → is_solid (slice_index_or bytes end d) ≡ false

-- from start up to end stand the bytes of a line, which may not hold others
pub record IsPlainLine (bytes : List ℕ) (start end : ℕ) : Type 0 where
  pub plain : IsPlain (slice_range bytes start end)
  pub ended : (d : ℕ) → end < length bytes → is_newline (slice_index_or bytes end d) ≡ true

-- the places where tokens begin, which have been cut up to a place
pub record AreCut (bytes : List ℕ) (at : ℕ) (starts : List ℕ) : Type 0 where
  pub few : length starts ≤ at
  pub tokens : All (BeginsToken bytes) starts
  pub order : AreInOrder bytes starts
  pub last : All (λ start. start + length (token_at bytes start) < at) starts

-- places to which those of some tokens are appended
pub record AddsTokens (bytes old new : List ℕ) (tokens : List (List ℕ)) : Type 0 where
  pub kept : new ≡ old ++ drop (length old) new
  pub added : map (token_at bytes) (drop (length old) new) ≡ tokens
