use Rattle.std.proofs.Common.{◌≡◌, ℕ, ◌<◌, length, get_or, None}
use Rattle.std.specs.Prelude.{slice_index}
use Rattle.raw_switch_asm.specs.Route.{route_code}
use Rattle.raw_switch_asm.proofs.routes.route_codes.Given as goal

abbrev pub invariant-loop-output : goal.invariant-loop-output
invariant-loop-output l = record {
  ten : length l.codes ≡ 10;
  read : (k : ℕ) → k < l.output → slice_index l.codes k ≡ route_code (get_or l.sources k None);
}
