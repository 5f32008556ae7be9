use Rattle.std.proofs.Common.{◌≡◌, ◌<◌, ℕ, Some}
use Rattle.std.specs.Prelude.{slice_get, option_map}
use Rattle.raw_explore.proofs.position.remember.Given as goal

abbrev pub invariant-procs : goal.invariant-procs
invariant-procs l = (q : ℕ) → q < l.p → slice_get l.before q ≡ option_map Some (slice_get l.turns q)
