use Rattle.std.proofs.Common.{◌≡◌, ℕ, ◌<◌, Some}
use Rattle.std.specs.Prelude.{slice_get, slice_index}
use Rattle.raw_lengths.proofs.looking.are_some.Given as goal

abbrev pub invariant-loop-place : goal.invariant-loop-place
invariant-loop-place l = (i place : ℕ) → i < l.place-index → slice_get l.places i ≡ Some place → ¬ (slice_index l.words place ≡ 0)
