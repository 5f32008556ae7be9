use Rattle.raw_debug.proofs.Past.{has_stayed, has_ended, one_gone, one_past}
use Rattle.raw_debug.proofs.walk.Walk.advance_by_one.Goals as goal

pub returns-in_err-stepped-clause-stays : goal.returns-in_err-stepped-clause-stays
returns-in_err-stepped-clause-stays c = λ e.
    has_stayed c.args.self.now c.advance.new.self c.set-set.ensures.valid c.advance.ensures.set c.requires.under_way
    (c.advance.ensures.rests c.in_err-stepped.was) (c.advance.ensures.stays c.in_err-stepped.was)

pub returns-in_err-stepped-clause-rests : goal.returns-in_err-stepped-clause-rests
returns-in_err-stepped-clause-rests c = λ e.
    has_ended c.args.self.now c.advance.new.self c.set-set.ensures.valid c.advance.ensures.set c.requires.under_way
    (c.advance.ensures.rests c.in_err-stepped.was) (c.advance.ensures.stays c.in_err-stepped.was)

pub returns-clause-gone : goal.returns-clause-gone
returns-clause-gone c =
    one_gone c.args.self.now c.advance.new.self c.set-set.ensures.valid c.advance.ensures.set c.requires.under_way
    c.in_ok-stepped.stepped.0 c.in_ok-stepped.ensures.gone c.in_ok-stepped.ensures.counted c.args.moment

pub returns-clause-past : goal.returns-clause-past
returns-clause-past c =
    let own = c.args.self.now.machine.set in
    one_past c.args.self.now c.advance.new.self c.set-set.ensures.valid c.advance.ensures.set c.requires.under_way
    c.in_ok-stepped.stepped.0 c.in_ok-stepped.ensures.gone c.in_ok-stepped.ensures.counted
    (c.law_wired.ensures.wired own c.set-set.ensures.valid) (c.law_wired.ensures.sends_once own) (c.law_queues.ensures.queue own)
    c.set-set.ensures.fits c.args.proc.0 c.args.aim c.requires.can.possible
