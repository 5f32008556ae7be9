use Rattle.std.proofs.Common.{◌≡◌, map, take}
use Rattle.std.specs.Prelude.{slice_index}
use Rattle.raw_prove.proofs.comparing.claimed.Given as goal

abbrev pub invariant-loop-out : goal.invariant-loop-out
invariant-loop-out l = l.claimed.items ≡ map (λ v. slice_index l.numbers v) (take l.out-index l.outs)
