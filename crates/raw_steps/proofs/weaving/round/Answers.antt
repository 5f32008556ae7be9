use Rattle.std.proofs.Common.{◌≡◌, ◌<◌, ◌≤◌, [], subst, ⊎_elim, arith}
use Rattle.std.specs.Prelude.{slice_index_or}
use Rattle.std.proofs.lemmas.Bool.{ltb-false, cases_lt}
use Rattle.std.proofs.lemmas.List.{length-map}
use Rattle.raw_steps.specs.Taking.{numbers}
use Rattle.raw_steps.specs.Left.{entries_of, BeginsIdle}
use Rattle.raw_steps.proofs.Fronts.{on_more, vec_longer, still_idle, all_spent}
use Rattle.raw_steps.proofs.weaving.round.Goals as goal

pub loop-w-preserved : goal.loop-w-preserved
loop-w-preserved c =
    let old = c.args.m.now in
    let mid = c.loop-w.m in
    let new = c.weave_log.new.m in
    let logs = entries_of c.args.left.now in
    let between = entries_of c.loop-w.left in
    let later = entries_of c.weave_log.new.left in
    let before = c.args.woven.now in
    let some = c.loop-w.woven in
    let after = c.weave_log.new.woven in
    let w = c.loop-w.w in
    let first = vec_longer old mid logs between before some c.loop-w.invariant.on in
    let second = vec_longer mid new between later some after c.weave_log.ensures.on in
    let many = length-map c.loop-w.left (λ list. numbers list.now) in
    record {
      can = c.weave_log.ensures.can;
      on = on_more c.law_taken.ensures.both old mid new logs between later (numbers before.items) (numbers some.items) (numbers after.items) c.loop-w.invariant.on
          c.weave_log.ensures.on;
      idle = λ short v below.
          still_idle mid new between later some after c.weave_log.ensures.on (omega (arith, first, short)) v (omega (arith, below, many, c.loop-w-test.true, c.loop-w.auto.left))
          (⊎_elim (λ (h : v < w). c.loop-w.invariant.idle (omega (arith, second, short)) v h)
          (λ (h : w ≤ v).
          let is : w ≡ v = omega (arith, h, below) in
          subst (λ u. BeginsIdle mid.set mid.state (slice_index_or between u [])) is (c.weave_log.ensures.idle (omega (arith, first, short))))
          (cases_lt v w));
    }

pub returns-clause-spent : goal.returns-clause-spent
returns-clause-spent c = λ no.
    let short = ltb-false c.len-before.result c.len.result no in
    let many = length-map c.loop-w.left (λ list. numbers list.now) in
    all_spent c.loop-w.m.set (c.law_weaving.ensures.goes_on c.loop-w.m.set) c.law_weaving.ensures.spent c.loop-w.m.state (entries_of c.loop-w.left)
    c.loop-w.invariant.can.joining
    (λ v there. c.loop-w.invariant.idle (omega (arith, short, c.len-before.ensures, c.len.ensures)) v (omega (arith, there, many, c.loop-w-test.false, c.loop-w.auto.left)))
