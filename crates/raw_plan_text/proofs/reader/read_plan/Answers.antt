use Rattle.std.proofs.Common.{◌≡◌, ◌<◌, ◌+◌, ◌++◌, ◌∷◌, [], Some, length, get_or, take, sym, ap, subst, ◌∙◌, arith}
use Rattle.std.proofs.lemmas.List.{take_all}
use Rattle.std.proofs.lemmas.Result.{err_from_is_err_and}
use Rattle.raw_text.specs.Text.{text_lines}
use Rattle.raw_answer.specs.Places.{AreFaultless}
use Rattle.raw_answer.proofs.Places.{more_faultless}
use Rattle.raw_asm.specs.Tokens.{tokens_of}
use Rattle.raw_plan_text.specs.Faults.{line_fault}
use Rattle.raw_plan_text.specs.Meaning.{entries_of, place_fault}
use Rattle.raw_plan_text.specs.Answers.{Names, PlanStands}
use Rattle.raw_plan_text.proofs.Steps.{entries_more, fault_of_line}
use Rattle.raw_plan_text.proofs.Whole.{line_cause, all_read, none_read, few_hauls}
use Rattle.raw_plan_text.proofs.reader.read_plan.Goals as goal

pub returns-in_err-plan-clause-cause : goal.returns-in_err-plan-clause-cause
returns-in_err-plan-clause-cause c =
    let lines = text_lines c.args.text.now in
    let place = c.loop-place.place in
    let at = c.loop-place.invariant in
    let there : place < length lines = omega (arith, ap length at.same) in
    let line : tokens_of c.line.result ≡ get_or lines place [] = c.line.ensures ∙ ap (λ ls. get_or ls place []) at.same in
    let fault = sym (fault_of_line lines place there ∙ ap (line_fault (entries_of (take place lines))) (sym line)) in
    let names = subst (Names c.in_err-plan.field-0.0 (place + 1)) fault (c.in_err-plan.ensures.fault (entries_of (take place lines)) at.stands) in
    let p = err_from_is_err_and c.from_residual.result c.from_residual.ensures.1 in
    rw (p.1, p.2) (line_cause lines place c.in_err-plan.field-0.0 there at.faultless names)

pub loop-place-preserved : goal.loop-place-preserved
loop-place-preserved c =
    let lines = text_lines c.args.text.now in
    let place = c.loop-place.place in
    let at = c.loop-place.invariant in
    let entries = entries_of (take place lines) in
    let there : place < length lines = omega (arith, ap length at.same) in
    let line : tokens_of c.line.result ≡ get_or lines place [] = c.line.ensures ∙ ap (λ ls. get_or ls place []) at.same in
    record {
      same = at.same;
      faultless = more_faultless (place_fault lines) place at.faultless (fault_of_line lines place there ∙ ap (line_fault entries) (sym line) ∙ c.in_ok-plan.ensures.fault entries at.stands);
      stands = subst (PlanStands c.in_ok-plan.plan) (sym (entries_more lines place there ∙ ap (λ l. entries ++ entries_of (l ∷ [])) (sym line))) (c.in_ok-plan.ensures.stands entries at.stands);
    }

pub returns-in-Some-clause-meaning : goal.returns-in-Some-clause-meaning
returns-in-Some-clause-meaning c =
    let lines = text_lines c.args.text.now in
    let at = c.loop-place.invariant in
    let last : c.loop-place.place ≡ length lines = omega (arith, ap length at.same) in
    let stands = subst (λ plan. PlanStands plan (entries_of (take c.loop-place.place lines))) c.in-Some.is at.stands in
    all_read lines c.in-Some.plan (subst (AreFaultless (place_fault lines)) last at.faultless)
    (subst (λ front. PlanStands (Some c.in-Some.plan) (entries_of front)) (take_all c.loop-place.place lines (omega (arith, last))) stands)

pub returns-in-Some-clause-valid : goal.returns-in-Some-clause-valid
returns-in-Some-clause-valid c = (c.law_one_answer.ensures (text_lines c.args.text.now)).valid c.in-Some.plan (returns-in-Some-clause-meaning c)

pub returns-in-Some-clause-few : goal.returns-in-Some-clause-few
returns-in-Some-clause-few c =
    let few = few_hauls (text_lines c.args.text.now) c.in-Some.plan (returns-in-Some-clause-meaning c) in omega (arith, few, c.line_count.ensures.count, c.line_count.ensures.few)

pub returns-in-None-clause-cause : goal.returns-in-None-clause-cause
returns-in-None-clause-cause c =
    let lines = text_lines c.args.text.now in
    let at = c.loop-place.invariant in
    let last : c.loop-place.place ≡ length lines = omega (arith, ap length at.same) in
    let none = subst (λ plan. PlanStands plan (entries_of (take c.loop-place.place lines))) c.in-None.is at.stands in
    rw c.refusal.ensures (
      length lines,
      omega (arith, ap length at.same),
      none_read lines (subst (AreFaultless (place_fault lines)) last at.faultless) (sym (ap entries_of (take_all c.loop-place.place lines (omega (arith, last)))) ∙ none),
    )
