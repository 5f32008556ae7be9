use Rattle.std.proofs.Common.{◌≡◌, ◌+◌, ◌∷◌, ◌++◌, length, refl, sym, ap, ◌∙◌}
use Rattle.std.specs.List.{flat_map}
use Rattle.raw_cycle.specs.Cycles.{others_of}
use Rattle.raw_model.specs.Waits.{waits_for}
use Rattle.raw_model.specs.StateTexts.{wait_line}
use Rattle.raw_report.specs.Lines.{deadlock_head}
use Rattle.raw_report.specs.Report.{outcome_lines}
use Rattle.raw_state_text.proofs.Sections.{nothing_yet, one_more, failed, last_part, same_text}
use Rattle.raw_report.proofs.Ends.{cycle_is}
use Rattle.raw_report.proofs.outcome.put_cycle.Goals as goal

pub returns-in_err-put_line : goal.returns-in_err-put_line
unfolding outcome_lines
returns-in_err-put_line g c =
    let m = c.args.m.now in
    let next = waits_for m.set m.state in
    let ps = others_of next c.args.least.0 c.args.count in
    let waits = flat_map (wait_line m.set m.state) (c.args.least.0 ∷ ps) in
    let head : c.deadlock_head.result ≡ deadlock_head (length ps + 1) = c.deadlock_head.ensures ∙ ap deadlock_head (sym c.requires.whole) in
    failed _ _ _ _ _ _ _ (nothing_yet _ (deadlock_head (length ps + 1) ++ waits)) refl _ c.from_residual.result c.from_residual.ensures.0 (same_text _ _ _ _ _ head c.in_err-put_line.ensures)

pub returns : goal.returns
unfolding outcome_lines
returns g c =
    let m = c.args.m.now in
    let next = waits_for m.set m.state in
    let ps = others_of next c.args.least.0 c.args.count in
    let waits = flat_map (wait_line m.set m.state) (c.args.least.0 ∷ ps) in
    let head : c.deadlock_head.result ≡ deadlock_head (length ps + 1) = c.deadlock_head.ensures ∙ ap deadlock_head (sym c.requires.whole) in
    let begun = one_more _ _ _ _ _ _ _ (nothing_yet _ (deadlock_head (length ps + 1) ++ waits)) refl _ (same_text _ _ _ _ _ head c.in_ok-put_line.ensures) in
    last_part _ _ _ _ _ _ _ begun (sym (ap (flat_map (wait_line m.set m.state)) (cycle_is next c.args.least.0 c.args.count c.requires.whole))) c.put_waits.ensures
