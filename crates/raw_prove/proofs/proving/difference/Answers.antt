use Rattle.std.proofs.Common.{length, ap, arith}
use Rattle.raw_prove.proofs.Claiming.{inputs_few}
use Rattle.raw_prove.proofs.proving.difference.Goals as goal

pub claim_terms-requires-clause-few : goal.claim_terms-requires-clause-few
claim_terms-requires-clause-few c =
    let few = inputs_few c.deref.result.now in
    let same = ap length c.deref.ensures.value in
    omega (arith, few, same, c.claim.invariant.few)
