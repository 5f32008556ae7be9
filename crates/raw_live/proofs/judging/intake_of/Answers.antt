use Rattle.std.proofs.Common.{ap, length, arith}
use Rattle.raw_live.proofs.judging.intake_of.Goals as goal

pub invariant_of-result : goal.invariant_of-result
invariant_of-result g = record {
  ports = omega (arith, ap length g.in_ok-places.ensures, g.procs.ensures.few, g.procs.ensures.value, g.ports.ensures);
}
