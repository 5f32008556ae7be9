use Rattle.std.proofs.Common.{◌<◌, length, sym, subst, arith}
use Rattle.std.proofs.lemmas.List.{length-map}
use Rattle.std.proofs.lemmas.Option.{slice_get_within}
use Rattle.raw_steps.specs.Taking.{numbers}
use Rattle.raw_serial.specs.Leading.{HasTaken}
use Rattle.raw_steps.proofs.Steps.{numbers_more}
use Rattle.raw_steps.proofs.taking.take_enabled.Goals as goal

pub loop-place-preserved : goal.loop-place-preserved
loop-place-preserved c =
    subst (λ steps. HasTaken c.args.m.now c.take_step.new.m steps) (sym (numbers_more c.args.steps.now c.loop-place.place _ c.loop-place-test.true))
    (c.law_taken.ensures.both c.args.m.now c.loop-place.m c.take_step.new.m _ _ c.loop-place.invariant c.if-not-take_step.ensures.taken)

pub returns-clause-next : goal.returns-clause-next
returns-clause-next c = λ p there.
    let within : length c.args.steps.now < length (numbers c.args.steps.now) = slice_get_within (numbers c.args.steps.now) (length c.args.steps.now) p there in
    absurd (omega (arith, within, length-map c.args.steps.now (λ p. p.0)))
