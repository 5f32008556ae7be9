use Rattle.std.proofs.Common.{◌≡◌, false, refl, sym, ◌∙◌, subst, arith}
use Rattle.raw_model.specs.Rest.{enabled}
use Rattle.raw_debug.specs.declared.passing.Passing.{Passing}
use Rattle.raw_debug.specs.Walking.{PassesStopped}
use Rattle.raw_debug.proofs.Standing.{none_further}
use Rattle.raw_debug.proofs.walk.Walk.sweep_on.Goals as goal

pub turns-init : goal.turns-init
turns-init c = record {
  set = refl;
  state = refl;
  moment = refl;
  alone = refl;
  passing = refl;
  from = omega arith;
  none = λ q low high. absurd (omega (arith, low, high));
}

pub turns-preserved : goal.turns-preserved
turns-preserved c =
    let old = c.args.self.now in
    let inv = c.turns.invariant in
    let p = c.turns.p in
    let off : enabled old.machine.set old.machine.state p ≡ false =
    subst (λ g. enabled g old.machine.state p ≡ false) inv.set
    (subst (λ s. enabled c.turns.self.machine.set s p ≡ false) inv.state (sym c.step.ensures.enabled ∙ c.if-step.false)) in
    let passes = subst (λ (x : Passing). PassesStopped old.machine.set old.machine.state x.ends) (sym inv.passing) c.requires.passing in
    record {
      set = c.step.ensures.set ∙ inv.set;
      state = c.step.ensures.stays c.if-step.false ∙ inv.state;
      moment = inv.moment;
      alone = inv.alone;
      passing = inv.passing;
      from = omega (arith, inv.from, c.first-p.ensures.later);
      none = none_further old.machine.set old.machine.state old.next p c.first-p.result inv.none off
          (c.first-p.ensures.stopped old.machine.set old.machine.state passes);
    }
