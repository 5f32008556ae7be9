use Rattle.std.proofs.Common.{◌≡◌, ℕ, ◌<◌, length}
use Rattle.std.specs.Prelude.{slice_index}
use Rattle.raw_switch_isa.specs.Code.{route_at}
use Rattle.raw_switch_isa.proofs.code.routes_of.Given as goal

-- each code before the output is read
abbrev pub invariant-loop-output : goal.invariant-loop-output
invariant-loop-output l = record {
  ten : length l.routes ≡ 10;
  read : (k : ℕ) → k < l.output → slice_index l.routes k ≡ route_at l.word k;
}
