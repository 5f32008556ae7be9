-- The terms that a run notes, by their places in a list.
use Rattle.std.specs.Prelude.{◌≡◌, ℕ, ◌<◌, Some, List, length, slice_get, slice_index}

-- a number stands at one of these places of a list
pub record IsPlaced (numbers places : List ℕ) (number : ℕ) : Type 0 where
  pub index : ℕ
  pub place : ℕ
  pub there : slice_get places index ≡ Some place
  pub is : slice_index numbers place ≡ number

abbrev pub ArePlaces : List ℕ → List ℕ → List ℕ → Type 0
ArePlaces numbers places terms = (i : ℕ) → i < length terms → IsPlaced numbers places (slice_index terms i)

-- the words at these places of a list are not 0
abbrev pub AreSome : List ℕ → List ℕ → Type 0
AreSome words places = (i place : ℕ) → slice_get places i ≡ Some place → ¬ (slice_index words place ≡ 0)
