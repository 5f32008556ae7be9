use Rattle.std.proofs.Common.{◌≡◌, ◌++◌, refl, ap, ◌∙◌, append_assoc}
use Rattle.raw_model.specs.Program.{ProgramSet}
use Rattle.raw_depth.specs.Verdicts.{verdict}
use Rattle.raw_depths.specs.declared.found.Depths.{Depths}
use Rattle.raw_depths.specs.Text.{depth_lines, same_from, same_line, fastest_from, fastest_line, verdict_lines, depths_text}
use Rattle.raw_depths.specs.Found.{lines_of, AreDepths}
use Rattle.raw_state_text.proofs.Sections.{nothing_yet, one_more, failed, last_part}
use Rattle.raw_depths.proofs.Verdicts.{lines_are, same_is, fastest_is}
use Rattle.raw_depths.proofs.writing.write_depths.Goals as goal

-- the text is what was found, and the verdict
parts : (set : ProgramSet) (found : Depths) → AreDepths set found → depths_text set ≡ (lines_of 1 found.rests.items ++ (same_line found.same_from ++ fastest_line found.fastest_from)) ++ verdict_lines set (verdict set)
unfolding depths_text
parts set found are =
    let same : depth_lines set ++ (same_line (same_from set) ++ fastest_line (fastest_from set)) ≡ lines_of 1 found.rests.items ++ (same_line found.same_from ++ fastest_line found.fastest_from) =
    cc (lines_are set found are, same_is set found are, fastest_is set found are) in
    ap (λ front. front ++ verdict_lines set (verdict set)) (append_assoc (depth_lines set) (same_line (same_from set)) (fastest_line (fastest_from set)) ∙ same)

pub returns-in_err-put_found : goal.returns-in_err-put_found
returns-in_err-put_found g c set are =
    failed _ _ _ _ _ _ _ (nothing_yet _ _) (parts set c.args.found.now are) _ c.from_residual.result c.from_residual.ensures.0 c.in_err-put_found.ensures

pub returns : goal.returns
returns g c set are =
    last_part _ _ _ _ _ _ _ (one_more _ _ _ _ _ _ _ (nothing_yet _ _) (parts set c.args.found.now are) _ c.in_ok-put_found.ensures) refl (c.put_verdict.ensures set are)
