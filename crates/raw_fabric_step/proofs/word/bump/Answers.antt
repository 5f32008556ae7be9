use Rattle.std.proofs.Common.{◌*◌, ◌^◌, arith, sym, ◌∙◌}
use Rattle.std.proofs.Math.Nat.{mod-le}
use Rattle.raw_fabric_rule.proofs.Words.{bump_up, bump_down, pow_3}
use Rattle.raw_fabric_step.proofs.word.bump.Goals as goal

pub overflow_add-result : goal.overflow_add-result
overflow_add-result c =
    let small = pow_3 c.args.end c.requires.end in
    let word = c.requires.word in
    let shift = mod-le (1 * 2 ^ (3 * c.args.end)) 18446744073709551616 in
    omega arith

pub returns-then-field_of : goal.returns-then-field_of
returns-then-field_of c = λ cs len is. bump_down c.args.word c.args.end cs c.requires.end len is (sym c.field_of.ensures.value ∙ c.if-field_of.true)

pub returns-else-field_of : goal.returns-else-field_of
returns-else-field_of c = λ cs len is. (bump_up c.args.word c.args.end cs c.requires.end len is (λ z. c.if-field_of.false (c.field_of.ensures.value ∙ z))).0
