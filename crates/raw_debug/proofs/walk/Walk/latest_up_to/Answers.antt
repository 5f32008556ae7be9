use Rattle.std.proofs.Common.{◌≡◌, length, None, ap, subst, ◌∙◌, arith}
use Rattle.std.specs.Prelude.{◌&&◌, ◌==◌}
use Rattle.raw_model.specs.Serial.{serial}
use Rattle.raw_debug.specs.Stops.{shows, last_up_to}
use Rattle.raw_debug.proofs.Seen.{Looks, looks_here, looks_on}
use Rattle.raw_debug.proofs.walk.Walk.latest_up_to.Goals as goal

pub steps-init : goal.steps-init
steps-init c =
    let of = c.args.self.now.machine.set in
    let p = c.args.proc.0 in
    let aim = c.args.aim in
    let new = c.pass_stopped.new.self in
    let stays = c.pass_stopped.ensures in
    record {
      look = subst (λ m. Looks of m p aim new None) stays.moment (looks_here of p aim new stays.set stays.under_way);
      upto = omega (arith, c.requires.later, stays.moment);
    }

pub steps-smaller : goal.steps-smaller
steps-smaller c = omega (arith, c.in-Some.ensures.gone.later, c.steps-test.true)

pub steps-preserved : goal.steps-preserved
steps-preserved c =
    let p = c.args.proc.0 in
    let aim = c.args.aim in
    let new = c.advance_to_sight.new.self in
    let q = c.in-Some.stepped.0 in
    let look = c.steps.invariant.look in
    let gone = c.in-Some.ensures.gone in
    let met = c.is_met.ensures ∙ ap (λ b. (q == p) && shows new.machine.state p aim b) c.sight-before.ensures in
    record {
      look = looks_on c.args.self.now.machine.set c.args.self.now.moment p aim c.steps.self new look.same c.args.moment gone q c.in-Some.ensures.seen
          c.steps.latest look c.is_met.result c.noted-latest.result met c.noted-latest.ensures;
      upto = gone.upto c.steps-test.true;
    }

pub returns-in_default : goal.returns-in_default
returns-in_default c =
    let look = c.steps.invariant.look in
    let ended = c.advance_to_sight.ensures.rests c.in_default.is in
    let long = ap (λ g. length (serial g)) look.same in
    absurd (omega (arith, ended.moment, ended.end, long, c.requires.within, c.steps-test.true))

pub returns-clause-latest : goal.returns-clause-latest
returns-clause-latest c =
    let of = c.args.self.now.machine.set in
    let look = c.steps.invariant.look in
    let there : c.args.moment ≡ c.steps.self.moment = omega (arith, c.steps.invariant.upto, c.steps-test.false) in
    ap (λ n. last_up_to of n c.args.proc.0 c.args.aim) there ∙ look.latest

pub returns-clause-moment : goal.returns-clause-moment
returns-clause-moment c = omega (arith, c.steps.invariant.upto, c.steps-test.false)
