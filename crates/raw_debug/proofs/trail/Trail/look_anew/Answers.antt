use Rattle.std.proofs.Common.{ap, ◌∙◌, arith}
use Rattle.raw_debug.specs.Walking.{Instant}
use Rattle.raw_debug.proofs.Searching.{none_before}
use Rattle.raw_debug.proofs.Copying.{starts_with}
use Rattle.raw_debug.proofs.trail.Trail.look_anew.Goals as goal

pub invariant_of-self : goal.invariant_of-self
invariant_of-self c =
    starts_with c.self.inside.walk.machine.set c.restart.new.self c.self.inside.copies.items c.restart.ensures c.self.invariant.copies

pub halves-init : goal.halves-init
halves-init c = record {
  same = c.restart.ensures.set ∙ ap (λ (i : Instant). i.set) c.self.view_is;
  upto = omega (arith, c.restart.ensures.moment);
  latest = none_before c.args.self.now.set c.args.proc.0 c.restart.new.self.moment c.args.aim c.restart.ensures.moment;
}
