use Rattle.std.proofs.Common.{◌≡◌, ◌+◌, ◌-◌, ◌<◌, ◌++◌, length, take, drop, Err, sym, ap, ◌∙◌, subst, arith}
use Rattle.std.specs.Prelude.{IfOk, IfErr}
use Rattle.std.specs.Option.{option_to_list}
use Rattle.std.proofs.lemmas.List.{take_rest, length-drop}
use Rattle.raw_text.specs.Text.{text_lines}
use Rattle.raw_answer.specs.Places.{AreFaultless}
use Rattle.raw_asm.specs.Tokens.{section_lines}
use Rattle.raw_flow_text.specs.Faults.{line_fault}
use Rattle.raw_flow_text.specs.Forms.{line_statement}
use Rattle.raw_flow_text.specs.Meaning.{said_before, fault_at, IsMeaning, IsCause}
use Rattle.raw_flow_text.specs.Building.{BuilderStands, Answers}
use Rattle.raw_flow_text.proofs.Sound.{ended_fed}
use Rattle.raw_flow_text.proofs.Passing.{line_passes, stands_next, line_refused, end_refused, end_meant, passed_on}
use Rattle.raw_flow_text.proofs.reader.read_flow_from.Goals as goal

pub returns-in_err-add_line-clause-cause : goal.returns-in_err-add_line-clause-cause
returns-in_err-add_line-clause-cause c =
    let lines = section_lines c.new-lines.result in
    let k = c.loop-place.place in
    let lt : k < length lines = omega arith in
    let stands = c.loop-place.invariant.stands in
    let refusal = c.in_err-add_line.field-0.0 in
    let answers = subst (λ line. Answers {T = Unit {0}} (Err refusal) c.line_number-number.result (line_fault c.args.wanted (said_before lines k) line)) c.line.ensures ((c.in_err-add_line.ensures {u = tt}).fault (said_before lines k) stands) in
    let number : c.line_number-number.result ≡ k + 1 + c.args.from = omega (arith, c.line_number-number.ensures, c.new-lines.ensures.from) in
    let whole : lines ≡ drop c.args.from (text_lines c.args.text.now) = c.new-lines.ensures.lines ∙ ap (λ n. take (n - c.args.from) (drop c.args.from (text_lines c.args.text.now))) c.line_count.ensures.count ∙ take_rest (text_lines c.args.text.now) c.args.from in
    subst (λ all. IfErr c.from_residual-in_err-add_line.result (IsCause c.args.wanted c.args.from all)) whole
    (passed_on c.args.wanted c.args.from lines c.from_residual-in_err-add_line.result refusal c.from_residual-in_err-add_line.ensures.1 (line_refused c.args.wanted c.args.from lines (Unit {0}) k c.line_number-number.result refusal number lt c.loop-place.invariant.faultless answers))

pub loop-place-preserved : goal.loop-place-preserved
loop-place-preserved c =
    let lines = section_lines c.new-lines.result in
    let k = c.loop-place.place in
    let lt : k < length lines = omega arith in
    let kept = c.in_ok-add_line.ensures {u = tt} in
    let stands = c.loop-place.invariant.stands in
    record {
      stands = stands_next c.args.wanted c.args.from lines c.add_line.new.self k lt (subst (λ line. BuilderStands c.add_line.new.self (said_before lines k ++ option_to_list (line_statement line))) c.line.ensures (kept.stands (said_before lines k) stands));
      faultless = line_passes c.args.wanted c.args.from lines k lt c.loop-place.invariant.faultless (ap (line_fault c.args.wanted (said_before lines k)) (sym c.line.ensures) ∙ kept.fault (said_before lines k) stands);
    }

pub finish-requires : goal.finish-requires
finish-requires c =
    let lines = section_lines c.new-lines.result in
    let last : c.loop-place.place ≡ length lines = omega arith in
    let faultless = subst (AreFaultless (fault_at c.args.wanted lines)) last c.loop-place.invariant.faultless in
    let stands = subst (λ k. BuilderStands c.loop-place.builder (said_before lines k)) last c.loop-place.invariant.stands in
    (said_before lines (length lines), stands, ended_fed c.args.wanted lines faultless)

pub returns-clause-meaning : goal.returns-clause-meaning
returns-clause-meaning c =
    let lines = section_lines c.new-lines.result in
    let last : c.loop-place.place ≡ length lines = omega arith in
    let faultless = subst (AreFaultless (fault_at c.args.wanted lines)) last c.loop-place.invariant.faultless in
    let stands = subst (λ k. BuilderStands c.loop-place.builder (said_before lines k)) last c.loop-place.invariant.stands in
    let whole : lines ≡ drop c.args.from (text_lines c.args.text.now) = c.new-lines.ensures.lines ∙ ap (λ n. take (n - c.args.from) (drop c.args.from (text_lines c.args.text.now))) c.line_count.ensures.count ∙ take_rest (text_lines c.args.text.now) c.args.from in
    subst (λ all. IfOk c.finish.result (IsMeaning c.args.wanted all)) whole
    (end_meant c.args.wanted c.args.from lines c.finish.result _ faultless (c.finish.ensures.fault (said_before lines (length lines)) stands) (c.finish.ensures.fed (said_before lines (length lines)) stands))

pub returns-clause-cause : goal.returns-clause-cause
returns-clause-cause c =
    let lines = section_lines c.new-lines.result in
    let last : c.loop-place.place ≡ length lines = omega arith in
    let faultless = subst (AreFaultless (fault_at c.args.wanted lines)) last c.loop-place.invariant.faultless in
    let stands = subst (λ k. BuilderStands c.loop-place.builder (said_before lines k)) last c.loop-place.invariant.stands in
    let whole : lines ≡ drop c.args.from (text_lines c.args.text.now) = c.new-lines.ensures.lines ∙ ap (λ n. take (n - c.args.from) (drop c.args.from (text_lines c.args.text.now))) c.line_count.ensures.count ∙ take_rest (text_lines c.args.text.now) c.args.from in
    let long : length lines ≡ length (text_lines c.args.text.now) - c.args.from = ap length whole ∙ length-drop c.args.from (text_lines c.args.text.now) in
    subst (λ all. IfErr c.finish.result (IsCause c.args.wanted c.args.from all)) whole (end_refused c.args.wanted c.args.from lines c.finish.result _ (omega (arith, long)) faultless (c.finish.ensures.fault (said_before lines (length lines)) stands))
