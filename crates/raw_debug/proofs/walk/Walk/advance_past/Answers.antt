use Rattle.std.proofs.Common.{sym, subst, arith}
use Rattle.raw_debug.specs.Debugging.{CanAim}
use Rattle.raw_debug.proofs.Past.{goes_further, past_further, stays_then, still_seen}
use Rattle.raw_debug.proofs.walk.Walk.advance_past.Goals as goal

pub advance_by_one-requires-in-steps : goal.advance_by_one-requires-in-steps
advance_by_one-requires-in-steps c =
    let gone = c.steps.invariant.gone in
    record { under_way = gone.under_way; can = subst (λ g. CanAim g c.args.proc.0 c.args.aim) (sym gone.set) c.requires.can }

pub steps-smaller : goal.steps-smaller
steps-smaller c = omega (arith, c.in-Some.ensures.gone.later, c.is_past.ensures.before c.steps-test.true)

pub steps-preserved : goal.steps-preserved
steps-preserved c =
    let old = c.args.self.now in
    let mid = c.steps.self in
    let new = c.advance_by_one-in-steps.new.self in
    let q = c.steps.stepped.0 in
    let r = c.in-Some.next.0 in
    let p = c.args.proc.0 in
    let inv = c.steps.invariant in
    let on = c.in-Some.ensures.gone in
    record {
      gone = goes_further old mid new q r p c.args.moment c.args.aim inv.gone on (c.is_past.ensures.before c.steps-test.true);
      past = past_further old mid new q r p c.args.moment c.args.aim inv.gone on inv.past c.in-Some.ensures.past
          (c.is_past.ensures.other c.steps-test.true) (c.is_past.ensures.local c.steps-test.true);
    }

pub returns-in_default-clause-gone : goal.returns-in_default-clause-gone
returns-in_default-clause-gone c =
    stays_then c.args.self.now c.steps.self c.advance_by_one-in-steps.new.self (c.advance_by_one-in-steps.ensures.stays c.in_default.is) c.args.moment c.steps.invariant.gone

pub returns-in_default-clause-seen : goal.returns-in_default-clause-seen
returns-in_default-clause-seen c =
    still_seen c.args.self.now c.steps.self c.advance_by_one-in-steps.new.self (c.advance_by_one-in-steps.ensures.stays c.in_default.is)
    c.steps.stepped.0 c.args.proc.0 c.args.aim c.steps.invariant.past.seen
