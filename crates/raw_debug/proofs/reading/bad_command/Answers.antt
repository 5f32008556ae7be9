use Rattle.std.proofs.Common.{◌<◌, ◌≤◌, ◌+◌, [], length, get_or, ap, sym, subst, ◌∙◌, arith}
use Rattle.raw_text.specs.Text.{text_lines}
use Rattle.raw_lines.specs.LabelsOf.{places_in}
use Rattle.raw_debug.specs.Commands.{bad_command, is_outside, led_by, meant}
use Rattle.raw_debug.proofs.Readings.{AreLeft, inside, found, none_more, left_after, absent}
use Rattle.raw_debug.proofs.reading.bad_command.Goals as goal

pub returns-in-Outside : goal.returns-in-Outside
unfolding bad_command
returns-in-Outside c =
    let labels = places_in c.args.labels.now in
    let all = text_lines c.args.text.now in
    let lt : c.loop-line.line < length all = omega (arith, c.loop-line-test.true, c.line_count-line-end.ensures.count) in
    let tokens = get_or all c.loop-line.line [] in
    let outside = ap is_outside (sym c.reading_at-reading.ensures ∙ ap (λ r. meant r tokens) c.in-Outside.is) in
    (c.loop-line.auto.line, lt, found labels c.args.set.now all c.args.from c.loop-line.line c.loop-line.current c.loop-line.invariant.left is_outside c.loop-line.invariant.none lt outside)

pub loop-line-preserved : goal.loop-line-preserved
loop-line-preserved c =
    let labels = places_in c.args.labels.now in
    let all = text_lines c.args.text.now in
    let lt : c.loop-line.line < length all = omega (arith, c.loop-line-test.true, c.line_count-line-end.ensures.count) in
    let at = c.loop-line.invariant.left in
    let current = c.loop-line.current in
    let tokens = get_or all c.loop-line.line [] in
    record {
      left = subst (AreLeft labels c.args.set.now all c.args.from (c.loop-line.line + 1))
          (sym (c.led_by-current.ensures tokens ∙ ap (led_by current) c.reading_at-reading.ensures)) (left_after labels c.args.set.now all c.args.from c.loop-line.line current at lt);
      none = none_more labels c.args.set.now all c.args.from c.loop-line.line current at is_outside c.loop-line.invariant.none lt
          (ap is_outside (sym c.reading_at-reading.ensures) ∙ inside c.reading_at-reading.result tokens c.in_default.not-Outside);
    }

pub returns : goal.returns
unfolding bad_command
returns c =
    let labels = places_in c.args.labels.now in
    let all = text_lines c.args.text.now in
    let le : length all ≤ c.loop-line.line = omega (arith, c.loop-line-test.false, c.line_count-line-end.ensures.count) in
    absent labels c.args.set.now all c.args.from c.loop-line.line c.loop-line.current c.loop-line.invariant.left is_outside c.loop-line.invariant.none le
