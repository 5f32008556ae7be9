use Rattle.std.proofs.Common.{◌≡◌, ℕ, ◌<◌, true, not, ◌||◌}
use Rattle.raw_switch_isa.specs.Ends.{has_end}
use Rattle.raw_switch_isa.proofs.ends.are_within.Given as goal

abbrev pub invariant-loop-end : goal.invariant-loop-end
invariant-loop-end l = (k : ℕ) → k < l.end → (not (has_end l.used k) || has_end l.wired k) ≡ true
