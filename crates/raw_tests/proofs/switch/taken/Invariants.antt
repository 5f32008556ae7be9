use Rattle.std.proofs.Common.{◌≡◌, ℕ, ◌<◌, None, length}
use Rattle.std.specs.Prelude.{slice_index, slice_index_or}
use Rattle.std.specs.Bool.{then_some}
use Rattle.raw_switch_isa.specs.Ends.{has_end}
use Rattle.raw_tests.proofs.switch.taken.Given as goal

-- each input before this one that the instruction names has what it offers
abbrev pub invariant-loop-end : goal.invariant-loop-end
invariant-loop-end l = record {
  ten : length l.given ≡ 10;
  before : (k : ℕ) → k < l.end → slice_index_or l.given k None
      ≡ then_some (has_end l.named k) (slice_index l.offers k);
}
