use Rattle.std.proofs.Common.{length, sym, ap, ◌∙◌, arith}
use Rattle.std.specs.Prelude.{◌&&◌, ◌==◌}
use Rattle.raw_model.specs.Serial.{serial}
use Rattle.raw_debug.specs.Stops.{shows}
use Rattle.raw_debug.proofs.Seen.{searches_on, stops_here, ends_here}
use Rattle.raw_debug.proofs.walk.Walk.go_until.Goals as goal

pub returns-in_default-clause-led : goal.returns-in_default-clause-led
returns-in_default-clause-led c =
    ends_here c.args.self.now.machine.set c.args.self.now.moment c.args.proc.0 c.args.aim c.steps.self c.advance_to_sight.new.self c.steps.invariant
    (c.advance_to_sight.ensures.rests c.in_default.is)

pub returns-then-is_met-clause-led : goal.returns-then-is_met-clause-led
returns-then-is_met-clause-led c =
    let p = c.args.proc.0 in
    let aim = c.args.aim in
    let new = c.advance_to_sight.new.self in
    let q = c.in-Some.stepped.0 in
    let met = sym (c.is_met.ensures ∙ ap (λ b. (q == p) && shows new.machine.state p aim b) c.sight-before.ensures) ∙ c.if-is_met.true in
    stops_here c.args.self.now.machine.set c.args.self.now.moment p aim c.steps.self new c.steps.invariant.same _ c.in-Some.ensures.gone q c.in-Some.ensures.seen
    c.steps.invariant met

pub steps-init : goal.steps-init
steps-init c =
    let stays = c.pass_stopped.ensures in
    record {
      same = stays.set;
      under_way = stays.under_way;
      later = omega (arith, stays.moment);
      none = λ j low high. absurd (omega (arith, low, high, stays.moment));
    }

pub steps-smaller : goal.steps-smaller
steps-smaller c =
    let gone = c.in-Some.ensures.gone in
    let long = ap (λ g. length (serial g)) c.steps.invariant.same in
    omega (arith, gone.later, gone.within, long)

pub steps-preserved : goal.steps-preserved
steps-preserved c =
    let p = c.args.proc.0 in
    let aim = c.args.aim in
    let new = c.advance_to_sight.new.self in
    let q = c.in-Some.stepped.0 in
    let off = sym (c.is_met.ensures ∙ ap (λ b. (q == p) && shows new.machine.state p aim b) c.sight-before.ensures) ∙ c.if-is_met.false in
    searches_on c.args.self.now.machine.set c.args.self.now.moment p aim c.steps.self new c.steps.invariant.same _ c.in-Some.ensures.gone q c.in-Some.ensures.seen
    c.steps.invariant off
