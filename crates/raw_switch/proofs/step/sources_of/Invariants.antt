use Rattle.std.proofs.Common.{◌≡◌, ℕ, ◌<◌, None, length}
use Rattle.std.specs.Prelude.{slice_index_or, IfSome}
use Rattle.raw_switch_isa.specs.Ends.{route_source, IsSource}
use Rattle.raw_switch.proofs.step.sources_of.Given as goal

-- each output before this one has its source
abbrev pub invariant-loop-output : goal.invariant-loop-output
invariant-loop-output l = record {
  ten : length l.sources ≡ 10;
  before : (k : ℕ) → k < l.output → slice_index_or l.sources k None ≡ route_source l.ins k;
  within : (k : ℕ) → k < l.output → IfSome (route_source l.ins k) IsSource;
}
