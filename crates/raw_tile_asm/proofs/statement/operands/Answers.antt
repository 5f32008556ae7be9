use Rattle.std.proofs.Common.{◌≡◌, ◌∙◌, ◌<◌, get_or, length, drop, Ok, Err, [], sym, refl, arith, subst}
use Rattle.std.proofs.lemmas.Result.{err_from_is_err_and}
use Rattle.std.proofs.lemmas.List.{take_all}
use Rattle.raw_tile_isa.specs.declared.table.Operand.TheVariants.{Rd}
use Rattle.raw_asm.specs.Tokens.{tokens_of}
use Rattle.raw_asm.specs.Labels.{place_in}
use Rattle.raw_tile_asm.specs.Operand.{with_operand}
use Rattle.raw_tile_asm.specs.Form.{form}
use Rattle.raw_tile_asm.proofs.OperandSteps.{bad_count, good_count, operand_next, operand_fails, operands_done, unused_more, fields_fit, AreUnused}
use Rattle.raw_tile_asm.proofs.statement.operands.Goals as goal

pub returns-then-len-forms-clause-value : goal.returns-then-len-forms-clause-value
returns-then-len-forms-clause-value c =
    sym (bad_count (place_in c.args.labels.now) c.args.place (form c.args.text_form.now.op c.args.text_form.now.operands.now) (tokens_of c.args.tokens.now)
    (λ same. c.if-len-forms.true (omega (arith, same, c.len.ensures))))

pub loop-k-preserved : goal.loop-k-preserved
loop-k-preserved c =
    let tokens = tokens_of c.args.tokens.now in
    let forms = c.args.text_form.now.operands.now in
    let k = c.loop-k.k in
    let labels = place_in c.args.labels.now in
    let within : k < length tokens = omega (arith, c.len.ensures) in
    let operand : with_operand labels c.args.place (get_or forms k Rd) (get_or tokens k []) c.loop-k.fields ≡ Ok c.in_ok-fields.fields = rw c.at.ensures at (sym c.in_ok-fields.ensures.value) in
    record {
      so_far = operand_next labels c.args.place forms tokens k k (get_or forms k Rd) c.loop-k.fields c.in_ok-fields.fields c.loop-k-test.true within refl operand ∙ c.loop-k.invariant.so_far;
      small = c.in_ok-fields.ensures.small;
      unused = unused_more forms k (get_or forms k Rd) c.loop-k.fields c.in_ok-fields.fields c.loop-k-test.true refl c.loop-k.invariant.unused c.in_ok-fields.ensures.others;
    }

pub returns-in_err-fields-clause-value : goal.returns-in_err-fields-clause-value
returns-in_err-fields-clause-value c =
    let tokens = tokens_of c.args.tokens.now in
    let forms = c.args.text_form.now.operands.now in
    let k = c.loop-k.k in
    let labels = place_in c.args.labels.now in
    let kind = c.in_err-fields.field-0.0 in
    let p = err_from_is_err_and c.from_residual.result c.from_residual.ensures.1 in
    let within : k < length tokens = omega (arith, c.len.ensures) in
    let operand : with_operand labels c.args.place (get_or forms k Rd) (get_or tokens k []) c.loop-k.fields ≡ Err kind = rw c.at.ensures at (sym c.in_err-fields.ensures.value) in
    let fails = operand_fails labels c.args.place forms tokens k k (get_or forms k Rd) c.loop-k.fields kind c.loop-k-test.true within refl operand in
    let whole = good_count labels c.args.place (form c.args.text_form.now.op forms) tokens (omega (arith, c.len.ensures)) in
    rw (p.1, p.2) (sym (whole ∙ sym c.loop-k.invariant.so_far ∙ fails))

pub returns-clause-value : goal.returns-clause-value
returns-clause-value c =
    let tokens = tokens_of c.args.tokens.now in
    let forms = c.args.text_form.now.operands.now in
    let labels = place_in c.args.labels.now in
    let whole = good_count labels c.args.place (form c.args.text_form.now.op forms) tokens (omega (arith, c.len.ensures)) in
    let done = operands_done labels c.args.place forms (drop c.loop-k.k tokens) c.loop-k.k c.loop-k.fields c.loop-k-test.false in
    sym (whole ∙ sym c.loop-k.invariant.so_far ∙ done)

pub returns-clause-fits : goal.returns-clause-fits
returns-clause-fits c =
    let forms = c.args.text_form.now.operands.now in
    let all = take_all c.loop-k.k forms c.loop-k-test.false in
    fields_fit (form c.args.text_form.now.op forms) c.loop-k.fields c.requires.own c.loop-k.invariant.small
    (subst (λ fs. AreUnused fs c.loop-k.fields) all c.loop-k.invariant.unused)
