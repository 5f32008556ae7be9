use Rattle.std.proofs.Common.{◌<◌, length, sym, ap, subst, ◌∙◌, arith}
use Rattle.raw_model.specs.Program.{IsSet}
use Rattle.raw_model.specs.Serial.{serial}
use Rattle.raw_debug.proofs.Walks.{GoesTo, goes_from_start, goes_from_here, goes_there, goes_on, goes_nowhere, counts_fit}
use Rattle.raw_debug.proofs.walk.Walk.go_to.Goals as goal
use Rattle.raw_debug.proofs.walk.Walk.go_to.Goals.{then-count-steps, else-count-steps}

pub steps-init : goal.steps-init
steps-init c =
    let old = c.args.self.now in
    let p = c.args.place.proc.0 in
    let k = c.args.place.steps in
    elim c.if-count-steps.branch [
      | then-count-steps w ↦
          subst (GoesTo old.machine.set p k) (sym w.self-is) (goes_from_start old.machine.set p k w.restart.new.self w.restart.ensures)
      | else-count-steps w ↦
          let less : c.count.result < k = omega (arith, w.if-count-steps.false) in
          subst (GoesTo old.machine.set p k) (sym w.self-is)
          (goes_from_here p k c.count.result old c.set-set.ensures.valid c.requires.there c.count.ensures.value less c.requires.under_way)
    ]

pub steps-smaller : goal.steps-smaller
steps-smaller c =
    let gone = c.advance_up_to.ensures.gone c.if-not-advance_up_to.false in
    let long = ap (λ g. length (serial g)) c.steps.invariant.same in
    omega (arith, gone.later, gone.within, long)

pub steps-preserved : goal.steps-preserved
steps-preserved c =
    let gone = c.advance_up_to.ensures.gone c.if-not-advance_up_to.false in
    let less : c.count-taken.result < c.args.place.steps = omega (arith, c.if-taken-steps.false) in
    let goes = c.steps.invariant in
    let fits = counts_fit c.steps.self (subst IsSet (sym goes.same) c.set-set.ensures.valid) c.law_serial.ensures.run c.law_bound.ensures.most_steps
    (goes.toward.0, goes.toward.1) in
    goes_on c.args.self.now.machine.set c.set-set.ensures.valid c.args.place.proc.0 c.args.place.steps c.requires.there c.steps.self c.steps.invariant
    c.count-taken.result c.count-taken.ensures.value c.advance_up_to.new.self gone.set less
    c.saturating_add-moment.result (omega (arith, c.saturating_add-moment.ensures)) (omega (arith, c.saturating_add-moment.ensures, less, fits)) gone

pub returns-then-taken-steps-clause-led : goal.returns-then-taken-steps-clause-led
returns-then-taken-steps-clause-led c =
    goes_there c.args.self.now.machine.set c.set-set.ensures.valid c.args.place.proc.0 c.args.place.steps c.requires.there c.steps.self c.steps.invariant
    c.count-taken.result c.count-taken.ensures.value (omega (arith, c.if-taken-steps.true))

pub returns-then-not-advance_up_to : goal.returns-then-not-advance_up_to
returns-then-not-advance_up_to c =
    let ended = c.advance_up_to.ensures.rests c.if-not-advance_up_to.true in
    let less : c.count-taken.result < c.args.place.steps = omega (arith, c.if-taken-steps.false) in
    record {
      on = record { set = ended.set ∙ c.steps.invariant.same; under_way = ended.under_way };
      led = goes_nowhere c.args.self.now.machine.set c.set-set.ensures.valid c.args.place.proc.0 c.args.place.steps c.requires.there c.steps.self c.steps.invariant
          c.count-taken.result c.count-taken.ensures.value c.advance_up_to.new.self ended.set less ended;
    }
