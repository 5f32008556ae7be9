use Rattle.std.proofs.Common.{◌≡◌, ℕ, ◌<◌, false}
use Rattle.std.specs.Prelude.{slice_get, IsSomeAnd}
use Rattle.raw_outcome.specs.Told.{passes}
use Rattle.raw_outcome.proofs.resting.first.Given as goal

abbrev pub invariant-loop-p : goal.invariant-loop-p
invariant-loop-p l = (k : ℕ) → k < l.p → IsSomeAnd (slice_get l.m.state.locals k) (λ x. false ≡ passes l.m.set l.test x)
