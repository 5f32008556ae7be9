use Rattle.std.proofs.Common.{refl, subst, rules}
use Rattle.raw_model.specs.Program.{IsSet}
use Rattle.raw_serial.specs.Taken.{IsWhole}
use Rattle.raw_live.proofs.engine.Engine.open.Goals as goal

pub returns : goal.returns
returns c = (
  refl,
  record {
    valid = subst IsSet c.set.view_is c.set.invariant;
    whole = subst (λ g. IsWhole g c.into_parts-parts.result) (c.in_ok-machine.ensures.set) c.into_parts-parts.ensures.whole;
    sent = search rules;
  },
)
