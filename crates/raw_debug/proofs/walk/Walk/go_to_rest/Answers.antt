use Rattle.std.proofs.Common.{length, ap, ◌∙◌, arith}
use Rattle.raw_model.specs.Serial.{serial}
use Rattle.raw_debug.proofs.walk.Walk.go_to_rest.Goals as goal

pub steps-smaller : goal.steps-smaller
steps-smaller c =
    let gone = c.advance_up_to.ensures.gone c.if-not-advance_up_to.false in
    let long = ap (λ g. length (serial g)) c.steps.invariant.same in
    omega (arith, gone.later, gone.within, long)

pub steps-preserved : goal.steps-preserved
steps-preserved c =
    let gone = c.advance_up_to.ensures.gone c.if-not-advance_up_to.false in record { same = gone.set ∙ c.steps.invariant.same; under_way = gone.under_way }

pub returns-then-not-advance_up_to : goal.returns-then-not-advance_up_to
returns-then-not-advance_up_to c =
    let ended = c.advance_up_to.ensures.rests c.if-not-advance_up_to.true in
    record {
      on = record { set = ended.set ∙ c.steps.invariant.same; under_way = ended.under_way };
      moment = ended.end ∙ ap (λ g. length (serial g)) c.steps.invariant.same;
    }
