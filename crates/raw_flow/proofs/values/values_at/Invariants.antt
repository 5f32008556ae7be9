use Rattle.std.proofs.Common.{◌≡◌, map, take}
use Rattle.std.specs.Prelude.{slice_index}
use Rattle.raw_flow.proofs.values.values_at.Given as goal

abbrev pub invariant-loop-out : goal.invariant-loop-out
invariant-loop-out l = l.words.items ≡ map (λ v. slice_index l.values v) (take l.out-index l.outs)
