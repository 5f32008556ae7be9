use Rattle.std.proofs.Common.{◌+◌, ◌<◌, subst, arith}
use Rattle.raw_fabric_step.specs.Units.{mine}
use Rattle.raw_fabric_step.proofs.Steady.{no_look, looked_twice}
use Rattle.raw_fabric_step.proofs.Watch.{wired_end, saw_more, saw_on, cause_of}
use Rattle.raw_fabric_step.proofs.Looking.{some_asked, none_until}
use Rattle.raw_fabric_step.proofs.Turning.{kept_none, kept_more, stands_looked}
use Rattle.raw_fabric_step.proofs.looks.see_ends.Goals as goal

pub ends-init : goal.ends-init
ends-init c =
    let a = c.args.words.now.key in
    let post = c.args.post.now in
    let seated = c.requires.stands.seated in
    let u = mine c.args.seat.now.me.0 post.index in
    let next = c.next_asked-end in
    record {
      kept = kept_none a post c.args.seat.now seated.placed;
      saw = saw_on a post.p 0 next.result u u (record { looked = no_look a post.p u; shown = λ d lt. absurd (omega arith) })
          (none_until a seated.post_is.valid post.p u.local c.args.asks 0 next.result c.requires.asks next.ensures.least);
      there = next.ensures.there;
      few = next.ensures.few;
    }

pub see_end-requires-clause-stands : goal.see_end-requires-clause-stands
see_end-requires-clause-stands c = stands_looked c.requires.stands c.ends.invariant.kept c.ends.invariant.saw.looked

pub returns-in-Err-clause-kept : goal.returns-in-Err-clause-kept
returns-in-Err-clause-kept c = kept_more c.ends.invariant.kept c.see_end.ensures.kept

pub returns-in-Err-clause-looked : goal.returns-in-Err-clause-looked
returns-in-Err-clause-looked c =
    let i = c.args.post.now.index in
    looked_twice c.args.words.now.key c.args.post.now.p (mine c.args.seat.now.me.0 i) (mine c.ends.seat.me.0 i) (mine c.see_end.new.seat.me.0 i)
    c.ends.invariant.saw.looked c.in-Err.ensures.looked

pub returns-in-Err-clause-waits : goal.returns-in-Err-clause-waits
returns-in-Err-clause-waits c =
    let a = c.args.words.now.key in
    let is = c.requires.stands.seated.post_is.valid in
    let post = c.args.post.now in
    let v = c.args.seat.now.me.0 in
    let v1 = c.ends.seat.me.0 in
    let w = c.see_end.new.seat.me.0 in
    let i = post.index in
    let inv = c.ends.invariant in
    let some = some_asked a post.p (mine v i).local c.args.asks c.ends.end c.amount-asked.result c.requires.asks c.ends-test.true (inv.there c.ends-test.true) c.amount-asked.ensures in
    let wired = wired_end a.set is post.p c.ends.end (mine v i).local (subst (λ n. 0 < n) some.1 some.0) in
    cause_of a is post.p c.ends.end c.in-Err.unmet v v1 w (mine v i) (mine v1 i) (mine w i) wired inv.kept.steady inv.saw c.in-Err.ensures.looked c.in-Err.ensures.unmet

pub ends-preserved : goal.ends-preserved
ends-preserved c =
    let a = c.args.words.now.key in
    let is = c.requires.stands.seated.post_is.valid in
    let post = c.args.post.now in
    let i = post.index in
    let u = mine c.args.seat.now.me.0 i in
    let z = mine c.ends.seat.me.0 i in
    let y = mine c.see_end.new.seat.me.0 i in
    let inv = c.ends.invariant in
    let e = c.in-Ok.ensures in
    let next = c.next_asked-end-in-ends in
    record {
      kept = kept_more inv.kept c.see_end.ensures.kept;
      saw = saw_on a post.p (c.ends.end + 1) next.result u y (saw_more a is post.p c.ends.end u z y inv.saw e.looked e.shown)
          (none_until a is post.p u.local c.args.asks (c.ends.end + 1) next.result c.requires.asks next.ensures.least);
      there = next.ensures.there;
      few = next.ensures.few;
    }
