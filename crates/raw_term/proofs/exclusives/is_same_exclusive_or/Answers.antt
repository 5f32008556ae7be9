use Rattle.std.proofs.Common.{rules, ◌<◌, length, None, sym, ap, ◌∙◌, subst, arith}
use Rattle.std.specs.Prelude.{◌==◌}
use Rattle.std.proofs.lemmas.List.{length-take-le}
use Rattle.raw_term.specs.Sparse.{AreZeros}
use Rattle.raw_term.specs.Exclusives.{Marks, is_same_exclusive_or}
use Rattle.raw_term.proofs.ExclusiveSteps.{step, no_longer, walked, passed}
use Rattle.raw_term.proofs.exclusives.is_same_exclusive_or.Goals as goal

pub returns-then-not-branch : goal.returns-then-not-branch
returns-then-not-branch c =
    step c.args.nodes.now c.marks.marks (record { bits = c.pop.new.self; rest = c.marks-in-marks.inside.rest }) c.in-Some.i c.in-Some.bits None (is_same_exclusive_or c.args.nodes.now c.args.a c.args.b)
    c.marks.invariant.0 (search rules) (search rules) (search rules) (search rules) (search rules)

pub marks-preserved : goal.marks-preserved
marks-preserved c =
    let w = walked c.args.nodes.now c.marks.marks (record { bits = c.pop.new.self; rest = c.marks-in-marks.inside.rest }) c.parted.new.self c.in-Some.i c.in-Some.bits (is_same_exclusive_or c.args.nodes.now c.args.a c.args.b)
    c.marks.invariant.0 (search rules) (search rules) (search rules) (search rules) (search rules) in
    let l = ap (λ (s : Marks). length s.bits) c.marks-in-marks.view_is in
    (w.0, omega (arith, w.1, l, c.in-Some.ensures.within, c.marks.invariant.1))

pub marks-smaller : goal.marks-smaller
marks-smaller c =
    let few = no_longer c.args.nodes.now c.in-Some.bits (record { bits = c.pop.new.self; rest = c.marks-in-marks.inside.rest }) c.parted.new.self c.in-Some.i (search rules) in
    let cut = ap length c.in-Some.ensures.rest ∙ length-take-le c.in-Some.i c.marks-in-marks.inside.bits (omega (arith, c.in-Some.ensures.within)) in
    let l = ap (λ (s : Marks). length s.bits) c.marks-in-marks.view_is in
    let smaller : length c.parted.new.self.bits < length c.marks.marks.bits = omega (arith, few, cut, l, c.in-Some.ensures.within) in
    smaller

pub returns : goal.returns
returns c =
    let same = c.marks-in-marks.view_is in
    ap (λ (s : Marks). s.rest == 0) same
    ∙ sym (passed c.args.nodes.now (length c.marks.marks.bits) 0 c.marks.marks (omega arith) (subst (AreZeros 0) (ap (λ (s : Marks). s.bits) same) c.in_default.ensures.none)) ∙ c.marks.invariant.0
