use Rattle.std.proofs.Common.{sym, subst}
use Rattle.raw_debug.specs.Debugging.{CanAim}
use Rattle.raw_debug.proofs.Past.{goes_then, ends_then, seen_then}
use Rattle.raw_debug.proofs.walk.Walk.advance_to_sight.Goals as goal

pub returns-in-Some-clause-seen : goal.returns-in-Some-clause-seen
returns-in-Some-clause-seen c = c.in-Some.ensures.seen c.args.proc.0 c.args.aim c.requires.can.possible c.watched-watched.ensures

pub advance_past-requires : goal.advance_past-requires
advance_past-requires c =
    let stays = c.run_alone.ensures.stays c.in_default.is in
    record { under_way = stays.under_way; can = subst (λ g. CanAim g c.args.proc.0 c.args.aim) (sym stays.set) c.requires.can }

pub returns-in_err-stepped-clause-rests : goal.returns-in_err-stepped-clause-rests
returns-in_err-stepped-clause-rests c = λ e.
    ends_then c.args.self.now c.run_alone.new.self c.advance_past.new.self (c.run_alone.ensures.stays c.in_default.is)
    (c.advance_past.ensures.rests c.in_err-stepped.was)

pub returns-clause-gone : goal.returns-clause-gone
returns-clause-gone c =
    goes_then c.args.self.now c.run_alone.new.self c.advance_past.new.self (c.run_alone.ensures.stays c.in_default.is)
    c.args.moment c.in_ok-stepped.ensures.gone

pub returns-clause-seen : goal.returns-clause-seen
returns-clause-seen c =
    seen_then c.args.self.now c.run_alone.new.self c.advance_past.new.self (c.run_alone.ensures.stays c.in_default.is)
    c.in_ok-stepped.stepped.0 c.args.proc.0 c.args.aim c.in_ok-stepped.ensures.seen
