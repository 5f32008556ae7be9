use Rattle.std.proofs.Common.{◌∙◌, ℕ, Bool, sym, ap, arith}
use Rattle.std.specs.Prelude.{◌==◌}
use Rattle.std.specs.List.{list_any}
use Rattle.std.proofs.lemmas.Bool.{eq-eqb, eqb-true, false_from_ne_true}
use Rattle.raw_model.specs.Waits.{waits_for}
use Rattle.raw_picture.specs.Told.{is_told}
use Rattle.raw_picture.proofs.Ends.{any_here, any_later, any_end, any_done}
use Rattle.raw_picture.proofs.told.is_told.Goals as goal

pub first_wait-requires : goal.first_wait-requires
first_wait-requires c = c.loop-step.invariant.there (omega (arith, c.loop-step-test.true))

pub returns-then-next-p : goal.returns-then-next-p
unfolding is_told
returns-then-next-p c =
    let m = c.args.drawn.now.machine.now in
    let test : ℕ → Bool = λ q. q == c.args.p.0 in
    sym (ap (list_any test) (sym c.args.drawn.now.are_listed.same) ∙ sym c.loop-step.invariant.left
    ∙ any_here (waits_for m.set m.state) test c.args.drawn.now.listed.count c.loop-step._step c.loop-step.next.0 c.loop-step-test.true
    (eq-eqb c.loop-step.next.0 c.args.p.0 c.if-next-p.true))

pub returns-in-None : goal.returns-in-None
unfolding is_told
returns-in-None c =
    let m = c.args.drawn.now.machine.now in
    let test : ℕ → Bool = λ q. q == c.args.p.0 in
    sym (ap (list_any test) (sym c.args.drawn.now.are_listed.same) ∙ sym c.loop-step.invariant.left
    ∙ any_end (waits_for m.set m.state) test c.args.drawn.now.listed.count c.loop-step._step c.loop-step.next.0 c.loop-step-test.true
    (false_from_ne_true (test c.loop-step.next.0) (λ same. c.if-next-p.false (eqb-true c.loop-step.next.0 c.args.p.0 same))) (sym c.in-None.ensures.on))

pub loop-step-preserved : goal.loop-step-preserved
loop-step-preserved c =
    let m = c.args.drawn.now.machine.now in
    let test : ℕ → Bool = λ q. q == c.args.p.0 in
    record {
      there = λ _. c.in-Some.ensures.on_there;
      left =
          sym (any_later (waits_for m.set m.state) test c.args.drawn.now.listed.count c.loop-step._step c.loop-step.next.0 c.in-Some.wait.on.0 c.loop-step-test.true
          (false_from_ne_true (test c.loop-step.next.0) (λ same. c.if-next-p.false (eqb-true c.loop-step.next.0 c.args.p.0 same))) (sym c.in-Some.ensures.on))
          ∙ c.loop-step.invariant.left;
    }

pub returns : goal.returns
unfolding is_told
returns c =
    let m = c.args.drawn.now.machine.now in
    let test : ℕ → Bool = λ q. q == c.args.p.0 in
    sym (ap (list_any test) (sym c.args.drawn.now.are_listed.same) ∙ sym c.loop-step.invariant.left
    ∙ any_done (waits_for m.set m.state) test c.args.drawn.now.listed.count c.loop-step._step c.loop-step.next.0 c.loop-step-test.false)
