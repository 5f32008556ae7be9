-- What is read place by place. The places are lines, numbered from 0, and the place behind the last one; `fault` says what is
-- wrong at each, and `last` is the last of them.
use Rattle.std.specs.Prelude.{◌≡◌, ℕ, ◌+◌, ◌<◌, ◌≤◌, Option, Some, None}

-- nothing is wrong at the first n places
abbrev pub AreFaultless : {K : Type 0} → (ℕ → Option K) → ℕ → Type 0
AreFaultless fault n = (k : ℕ) → k < n → fault k ≡ None

-- no place is faulty, and this is what is given
pub record IsMeant {T K : Type 0} (fault : ℕ → Option K) (last : ℕ) (given x : T) : Type 0 where
  pub faultless : AreFaultless fault (last + 1)
  pub is : x ≡ given

-- the place k, which is not behind the last one, has this fault, and no place before it has any
pub record IsLeast {K : Type 0} (fault : ℕ → Option K) (last k : ℕ) (kind : K) : Type 0 where
  pub within : k ≤ last
  pub here : fault k ≡ Some kind
  pub before : AreFaultless fault k

-- the least faulty place, as a line that is counted from 1, where so many others stand before the first, and its fault
abbrev pub IsLeastFrom : {K : Type 0} → (ℕ → Option K) → ℕ → ℕ → ℕ → K → Type 0
IsLeastFrom fault last from line kind = (k : ℕ) × (line ≡ k + 1 + from) × IsLeast fault last k kind
