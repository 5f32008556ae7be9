use Rattle.std.proofs.Common.{refl, ◌∙◌, length-set, arith}
use Rattle.raw_fabric.proofs.OtherSides.{sides_more}
use Rattle.raw_fabric.proofs.sides.sides_of.Goals as goal

pub loop-end-init : goal.loop-end-init
loop-end-init c = record { many = refl; each = λ p are e none lt wired. absurd (omega arith) }

pub loop-end-preserved : goal.loop-end-preserved
loop-end-preserved c =
    let inv = c.loop-end.invariant in
    record {
      many = length-set c.loop-end.sides c.loop-end.end c.side_at.result ∙ inv.many;
      each = λ p are. sides_more c.args.set.now p c.loop-end.end c.loop-end.sides c.side_at.result inv.many c.loop-end-test.true (inv.each p are) (c.side_at.ensures p are);
    }
