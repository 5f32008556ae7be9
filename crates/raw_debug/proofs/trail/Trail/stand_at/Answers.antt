use Rattle.std.proofs.Common.{◌<◌, length, ap, sym, ◌∙◌, subst}
use Rattle.std.specs.Prelude.{slice_index_or}
use Rattle.raw_debug.specs.Walking.{IsOn}
use Rattle.raw_debug.proofs.Copying.{copy_on, stands_on}
use Rattle.raw_debug.proofs.trail.Trail.stand_at.Goals as goal

pub invariant_of-self : goal.invariant_of-self
invariant_of-self c =
    let set = c.self.inside.walk.machine.set in
    let copies = c.self.inside.copies.items in
    let copy = c.in-Some.copy.now in
    let items = c.deref.ensures.value in
    let found = c.in-Some.ensures.lookup.3 in
    let lt = subst (λ l. c.args.copy < length l) items found.0 in
    let on = copy_on set copies c.args.copy copy lt (found.1 copy ∙ ap (λ l. slice_index_or l c.args.copy copy) items) c.self.invariant.copies in
    stands_on set c.copy_from.new.self copies (subst (IsOn set) (sym c.copy_from.ensures) on) c.self.invariant.copies
