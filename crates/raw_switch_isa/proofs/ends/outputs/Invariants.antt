use Rattle.std.proofs.Common.{◌≡◌, ℕ, ◌&&◌}
use Rattle.std.specs.Prelude.{nat_lt}
use Rattle.raw_switch_isa.specs.Ends.{has_end, is_filled}
use Rattle.raw_switch_isa.proofs.ends.outputs.Given as goal

-- the word has the outputs so far that are filled
abbrev pub invariant-loop-output : goal.invariant-loop-output
invariant-loop-output l = (end : ℕ) → has_end l.word end ≡ (is_filled l.ins end && nat_lt end l.output)
