use Rattle.std.proofs.Common.{◌≡◌, get_or, sym, ◌∙◌, arith}
use Rattle.std.proofs.lemmas.Bool.Decides.{nat_tests}
use Rattle.raw_text.proofs.Numbers.{no_plus, no_text, refused, accepted, reads, read_within, read_beyond, read_nothing}
use Rattle.raw_text.proofs.numeral.digits_up_to.Goals as goal

pub returns-then-begins_with_plus-clause-value : goal.returns-then-begins_with_plus-clause-value
returns-then-begins_with_plus-clause-value c =
    let plus : get_or c.args.digits.now 0 0 ≡ 43 = grind (arith, nat_tests) in
    sym (no_plus c.args.most c.args.radix c.args.digits.now (omega arith) plus)

pub returns-in_err-text-clause-value : goal.returns-in_err-text-clause-value
returns-in_err-text-clause-value c =
    let none = refused _ _ c.from_utf8.result (sym c.ok.ensures.value ∙ c.in_err-text.was) c.from_utf8.ensures.cases in
    c.from_residual.ensures ∙ sym (no_text c.args.most c.args.radix c.args.digits.now (omega arith) none.1.0)

pub returns-in_err-value-clause-value : goal.returns-in_err-value-clause-value
returns-in_err-value-clause-value c =
    let plain : get_or c.args.digits.now 0 0 ≡ 43 → ⊥ = grind (arith, nat_tests) in
    let text = accepted _ _ c.from_utf8.result c.in_ok-text.text (sym c.ok.ensures.value ∙ c.in_ok-text.was) c.from_utf8.ensures.cases in
    let parsed = reads c.args.radix c.args.digits.now c.in_ok-text.text.now c.from_str_radix.result text.0 plain c.from_str_radix.ensures.value in
    let none = refused _ _ c.from_str_radix.result (sym c.ok-2.ensures.value ∙ c.in_err-value.was) parsed in
    c.from_residual-in_err-value.ensures ∙ sym (read_nothing c.args.most c.args.radix c.args.digits.now (omega arith) none.1)

pub returns-then-value-most-clause-value : goal.returns-then-value-most-clause-value
returns-then-value-most-clause-value c =
    let plain : get_or c.args.digits.now 0 0 ≡ 43 → ⊥ = grind (arith, nat_tests) in
    let text = accepted _ _ c.from_utf8.result c.in_ok-text.text (sym c.ok.ensures.value ∙ c.in_ok-text.was) c.from_utf8.ensures.cases in
    let parsed = reads c.args.radix c.args.digits.now c.in_ok-text.text.now c.from_str_radix.result text.0 plain c.from_str_radix.ensures.value in
    let read = accepted _ _ c.from_str_radix.result c.in_ok-value.value (sym c.ok-2.ensures.value ∙ c.in_ok-value.was) parsed in
    sym (read_within c.args.most c.args.radix c.in_ok-value.value c.args.digits.now read c.if-value-most.true)

pub returns-else-value-most-clause-value : goal.returns-else-value-most-clause-value
returns-else-value-most-clause-value c =
    let plain : get_or c.args.digits.now 0 0 ≡ 43 → ⊥ = grind (arith, nat_tests) in
    let text = accepted _ _ c.from_utf8.result c.in_ok-text.text (sym c.ok.ensures.value ∙ c.in_ok-text.was) c.from_utf8.ensures.cases in
    let parsed = reads c.args.radix c.args.digits.now c.in_ok-text.text.now c.from_str_radix.result text.0 plain c.from_str_radix.ensures.value in
    let read = accepted _ _ c.from_str_radix.result c.in_ok-value.value (sym c.ok-2.ensures.value ∙ c.in_ok-value.was) parsed in
    sym (read_beyond c.args.most c.args.radix c.in_ok-value.value c.args.digits.now read.1 c.if-value-most.false)
