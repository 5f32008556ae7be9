use Rattle.std.proofs.Common.{sym, ◌∙◌}
use Rattle.raw_debug.proofs.Ahead.{not_some}
use Rattle.raw_debug.proofs.Past.{has_ended, one_gone, goes_then, ends_then}
use Rattle.raw_debug.proofs.walk.Walk.advance_up_to.Goals as goal

pub returns-in_default-clause-rests : goal.returns-in_default-clause-rests
returns-in_default-clause-rests c = λ e.
    let mid = c.run_alone.new.self in
    let new = c.advance.new.self in
    let stays = c.run_alone.ensures.stays (not_some c.run_alone.result (sym c.is_some.ensures ∙ c.if-is_some.false)) in
    ends_then c.args.self.now mid new stays
    (has_ended mid new c.set-set.ensures.valid c.advance.ensures.set stays.under_way
    (c.advance.ensures.rests c.in_default.is) (c.advance.ensures.stays c.in_default.is))

pub returns-clause-gone : goal.returns-clause-gone
returns-clause-gone c = λ e.
    let mid = c.run_alone.new.self in
    let new = c.advance.new.self in
    let stays = c.run_alone.ensures.stays (not_some c.run_alone.result (sym c.is_some.ensures ∙ c.if-is_some.false)) in
    goes_then c.args.self.now mid new stays c.args.moment
    (one_gone mid new c.set-set.ensures.valid c.advance.ensures.set stays.under_way
    c.in-Some._stepped.0 c.in-Some.ensures.gone c.in-Some.ensures.counted c.args.moment)
