-- The bytes of a memory in which nothing has been stored.
use Rattle.std.specs.Prelude.{◌≡◌, ℕ, List, replicate}

-- so many zeros; a test that computes it would count each of them
unfoldable pub IsZeros : ℕ → List ℕ → Type 0
IsZeros size bytes = bytes ≡ replicate size 0
