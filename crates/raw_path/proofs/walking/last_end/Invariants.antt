use Rattle.std.proofs.Common.{◌≡◌, ◌<◌, ◌-◌, suc, ℕ, false, length}
use Rattle.raw_path.specs.Path.{goes_in}
use Rattle.raw_path.proofs.walking.last_end.Given as goal

abbrev pub invariant-procs : goal.invariant-procs
invariant-procs l = (k q : ℕ) → suc k ≡ l.cycles → q < l.p → goes_in l.set k q ≡ false

abbrev pub decreases-procs : goal.decreases-procs
decreases-procs l = length l.seen - l.p
