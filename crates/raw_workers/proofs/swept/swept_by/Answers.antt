use Rattle.std.proofs.Common.{◌≡◌, subst, arith}
use Rattle.raw_fabric.specs.Owing.{owing}
use Rattle.raw_fabric.specs.InRow.{AreTurns}
use Rattle.raw_workers.proofs.Sweeping.{swept_stalled, swept_idle}
use Rattle.raw_workers.proofs.swept.swept_by.Goals as goal

pub returns-then-before-after : goal.returns-then-before-after
returns-then-before-after c old new before after turns = omega (arith, before, after, c.if-before-after.true)

pub returns-in-Stalled : goal.returns-in-Stalled
returns-in-Stalled c old new before after turns =
    swept_stalled old new (subst (λ turn. AreTurns turn old.log new.log (owing old) (owing new)) c.in-Stalled.is turns) (omega (arith, before, after, c.if-before-after.false))

pub returns-in_default : goal.returns-in_default
returns-in_default c old new before after turns = swept_idle c.args.turn c.in_default.not-Stalled old new turns (omega (arith, before, after, c.if-before-after.false))
