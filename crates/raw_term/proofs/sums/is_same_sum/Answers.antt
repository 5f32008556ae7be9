use Rattle.std.proofs.Common.{rules, length, Some, None, sym, ap, ◌∙◌, subst, arith}
use Rattle.std.specs.Prelude.{◌==◌}
use Rattle.std.proofs.lemmas.List.{length-take-le}
use Rattle.raw_term.specs.Sparse.{AreZeros}
use Rattle.raw_term.specs.Sums.{Sum, is_nothing, is_same_sum}
use Rattle.raw_term.proofs.SumSteps.{step, passed}
use Rattle.raw_term.proofs.sums.is_same_sum.Goals as goal

pub returns-then-not-branch : goal.returns-then-not-branch
returns-then-not-branch c =
    step c.args.nodes.now c.terms.sum (record { factors = c.pop.new.self; rest = c.sum-in-terms.inside.rest }) c.in-Some.i c.in-Some.factor None (is_same_sum c.args.nodes.now c.args.a c.args.b)
    c.terms.invariant.0 (search rules) (search rules) (search rules) (search rules) (search rules)

pub terms-preserved : goal.terms-preserved
terms-preserved c =
    let t = c.parted.new.self in
    let e = step c.args.nodes.now c.terms.sum (record { factors = c.pop.new.self; rest = c.sum-in-terms.inside.rest }) c.in-Some.i c.in-Some.factor (Some t) (is_same_sum c.args.nodes.now c.args.a c.args.b)
    c.terms.invariant.0 (search rules) (search rules) (search rules) (search rules) (search rules) in
    let many = c.in_ok-parted.ensures.long ∙ ap length c.in-Some.ensures.rest ∙ length-take-le c.in-Some.i c.sum-in-terms.inside.factors (omega (arith, c.in-Some.ensures.within)) in
    (ap (λ n. is_nothing c.args.nodes.now n t) many ∙ e, (let l = ap (λ (s : Sum). length s.factors) c.sum-in-terms.view_is in omega (arith, many, l, c.in-Some.ensures.within, c.terms.invariant.1)))

pub returns : goal.returns
returns c =
    let same = c.sum-in-terms.view_is in
    ap (λ (s : Sum). s.rest == 0) same
    ∙ sym (passed c.args.nodes.now (length c.terms.sum.factors) 0 c.terms.sum (omega arith) (subst (AreZeros 0) (ap (λ (s : Sum). s.factors) same) c.in_default.ensures.none)) ∙ c.terms.invariant.0
