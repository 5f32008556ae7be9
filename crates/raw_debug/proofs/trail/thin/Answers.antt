use Rattle.std.proofs.Common.{◌+◌, ◌*◌, ◌<◌, length, sym, ap, subst, ◌∙◌, arith}
use Rattle.std.proofs.lemmas.List.Edits.{length-swap}
use Rattle.raw_debug.specs.Walking.{AreOn}
use Rattle.raw_debug.proofs.Copying.{swapped}
use Rattle.raw_debug.proofs.trail.thin.Goals as goal

pub loop-i-preserved : goal.loop-i-preserved
loop-i-preserved c =
    let before = c.loop-i.copies.items in
    let i = c.loop-i.i in
    let high : 2 * i + 1 < length before = omega (arith, c.loop-i-test.true, c.loop-i.auto.i-end, c.min-left.ensures, c.len.ensures, c.loop-i.invariant.many) in
    let low : i < length before = omega (arith, high) in
    record {
      many = ap length c.swap.ensures.items ∙ length-swap before i (2 * i + 1) ∙ c.loop-i.invariant.many;
      all = λ set on. subst (AreOn set) (sym c.swap.ensures.items) (swapped set before i (2 * i + 1) low high (c.loop-i.invariant.all set on));
    }
