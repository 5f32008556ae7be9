use Rattle.std.proofs.Common.{◌≡◌, ◌+◌, ◌-◌, ◌++◌, take, sym, ap, ◌∙◌, subst, arith}
use Rattle.raw_state_text.proofs.Sections.{one_more, failed, all_written}
use Rattle.raw_path.specs.Text.{from_lines}
use Rattle.raw_path.proofs.Texts.{next_stretch, no_stretch}
use Rattle.raw_path.proofs.writing.put_stretches.Given.{Over}
use Rattle.raw_path.proofs.writing.put_stretches.Goals as goal
use Rattle.raw_path.proofs.writing.put_stretches.Goals.{After-from_line}

-- the line of the last of those that are left, and the lines of the others
parts : (g : Over) (c : After-from_line g) → from_lines (take c.stretches.left c.args.told.now.stretches.items) ≡ c.from_line.result ++ from_lines (take (c.stretches.left - 1) c.args.told.now.stretches.items)
parts g c =
    let ss = c.args.told.now.stretches.items in
    let i = c.stretches.left - 1 in
    let next : i + 1 ≡ c.stretches.left = omega (arith, c.stretches-test.true) in
    subst (λ k. from_lines (take k ss) ≡ c.from_line.result ++ from_lines (take i ss)) next
    (next_stretch ss i c.index.result.now (omega (arith, next, c.stretches.invariant.0)) c.index.ensures ∙ ap (λ line. line ++ from_lines (take i ss)) (sym c.from_line.ensures))

pub stretches-preserved : goal.stretches-preserved
stretches-preserved g c = (
  omega (arith, c.stretches.invariant.0, c.stretches-test.true),
  one_more _ _ _ _ _ _ _ c.stretches.invariant.1 (parts g (goal.at.stretches-preserved g c).After-from_line) _ c.in_ok-put_line.ensures,
)

pub returns-in_err-put_line : goal.returns-in_err-put_line
returns-in_err-put_line g c =
    failed _ _ _ _ _ _ _ c.stretches.invariant.1 (parts g (goal.at.returns-in_err-put_line g c).After-from_line) _ c.from_residual.result c.from_residual.ensures.0 c.in_err-put_line.ensures

pub returns : goal.returns
returns g c =
    let none : c.stretches.left ≡ 0 = omega (arith, c.stretches-test.false) in
    all_written _ _ _ _ _ c.stretches.invariant.1 (ap (λ n. from_lines (take n c.args.told.now.stretches.items)) none ∙ no_stretch c.args.told.now.stretches.items)
