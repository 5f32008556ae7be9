use Rattle.std.proofs.Common.{◌≡◌, drop}
use Rattle.raw_refute.specs.Judged.{first_other}
use Rattle.raw_refute.proofs.judging.first_other.Given as goal

abbrev pub invariant-loop-out : goal.invariant-loop-out
invariant-loop-out l = first_other l.out (drop l.out l.got) (drop l.out l.outs) ≡ first_other 0 l.got l.outs
