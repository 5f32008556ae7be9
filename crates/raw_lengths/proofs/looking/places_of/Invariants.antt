use Rattle.std.proofs.Common.{ℕ, ◌<◌}
use Rattle.std.specs.Prelude.{slice_index}
use Rattle.raw_lengths.specs.Looks.{IsPlaced}
use Rattle.raw_lengths.proofs.looking.places_of.Given as goal

abbrev pub invariant-loop-term : goal.invariant-loop-term
invariant-loop-term l = (i : ℕ) → i < l.term-index → IsPlaced l.numbers l.places.items (slice_index l.terms i)
