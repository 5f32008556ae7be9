use Rattle.std.proofs.Common.{◌≡◌, ◌+◌, ◌-◌, suc, refl, sym, ap, ◌∙◌, subst, arith}
use Rattle.raw_model.specs.Program.{ProgramSet}
use Rattle.raw_depth.specs.Depth.{at_depth}
use Rattle.raw_depths.specs.Text.{report_at}
use Rattle.raw_depths.specs.Found.{IsRestedOf, IsFoundTo}
use Rattle.raw_depths.proofs.Adding.{tested_is, found_more}
use Rattle.raw_depths.proofs.running.run_all.Goals as goal

pub loop-depth-init : goal.loop-depth-init
loop-depth-init c =
    record {
      found = c.new-found.ensures.found c.args.set.now;
      first = λ one. c.new-found.ensures.from;
      last = λ less. absurd (omega arith);
      set = refl;
    }

pub loop-depth-preserved : goal.loop-depth-preserved
loop-depth-preserved c =
    let set = c.args.set.now in
    let d = c.loop-depth.depth in
    let some = c.loop-depth.auto.depth in
    let before = c.loop-depth.invariant in
    let there : c.set_depth.new.set ≡ at_depth set d = c.set_depth.ensures ∙ ap (λ x. at_depth x d) before.set in
    let rested : IsRestedOf (at_depth set d) c.in_ok-next.next = subst (λ x. IsRestedOf x c.in_ok-next.next) there c.in_ok-next.ensures in
    let is : 1 + (d - 1) ≡ d = omega (arith, some) in
    let now : d ≡ d + 1 - 1 = omega arith in
    let more : suc (d - 1) ≡ d + 1 - 1 = omega (arith, some) in
    let tested = tested_is set (d - 1) d is c.loop-depth.found c.add.new.self before.found c.in_ok-next.next rested
    c.is_same-same.result c.loop-depth.last.items before.last c.is_same-same.ensures.first
    (λ less on. sym c.deref.ensures.value ∙ c.is_same-same.ensures.alike less on ∙ c.deref-in-loop-depth.ensures.value)
    (λ less off is. c.is_same-same.ensures.differ less off (c.deref.ensures.value ∙ is ∙ sym c.deref-in-loop-depth.ensures.value)) in
    record {
      found = subst (λ k. IsFoundTo set k c.add.new.self) more
          (found_more set (d - 1) d is c.loop-depth.found c.add.new.self before.found c.in_ok-next.next rested _ c.is_faster-faster.result tested
          (record {
            first = c.is_faster-faster.ensures.first;
            yes = c.is_faster-faster.ensures.faster;
            no = c.is_faster-faster.ensures.slower;
          })
          (λ zero. before.first (omega (arith, some, zero)))
          c.in_ok-add.ensures.rests c.in_ok-add.ensures.same c.in_ok-add.ensures.fastest c.in_ok-add.ensures.fewest
          c.in_ok-add.ensures.done c.in_ok-add.ensures.deadlock);
      first = λ one. absurd (omega (arith, some, one));
      last = λ less. rested.report ∙ ap (report_at set) now;
      set = there ∙ ap (at_depth set) (sym (ap (λ (x : ProgramSet). x.depth) there));
    }

pub returns-clause-found : goal.returns-clause-found
returns-clause-found c =
    let most = c.loop-depth.auto.depth-end (omega arith) in
    let all : c.loop-depth.depth - 1 ≡ 7 = omega (arith, c.loop-depth-test.false, most) in
    subst (λ k. IsFoundTo c.args.set.now k c.loop-depth.found) all c.loop-depth.invariant.found
