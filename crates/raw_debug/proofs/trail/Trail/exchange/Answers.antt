use Rattle.std.proofs.Common.{◌<◌, length, sym, subst, arith}
use Rattle.raw_debug.specs.Walking.{IsOn}
use Rattle.raw_debug.proofs.Copying.{copy_on, put_on, stands_on}
use Rattle.raw_debug.proofs.trail.Trail.exchange.Goals as goal

pub invariant_of-self : goal.invariant_of-self
invariant_of-self c =
    let walk = c.self.inside.walk in
    let set = walk.machine.set in
    let copies = c.self.inside.copies.items in
    let lt : c.args.copy < length copies = omega (arith, c.if-copy-len.true, c.len.ensures) in
    let on = copy_on set copies c.args.copy c.index_mut.result.now lt c.index_mut.ensures.value c.self.invariant.copies in
    stands_on set c.swap.new.x _ (subst (IsOn set) (sym c.swap.ensures.x_after) on) (put_on walk c.swap.new.y copies c.args.copy c.swap.ensures.y_after c.self.invariant)
