use Rattle.std.proofs.Common.{◌≡◌, ◌+◌, ◌*◌, ◌^◌, ◌<◌, ap, ◌∙◌, arith}
use Rattle.std.specs.Int.Digits.{number_from_digits}
use Rattle.std.proofs.lemmas.Int.Digits.{number_more}
use Rattle.std.proofs.lemmas.List.{take_all}
use Rattle.std.proofs.lemmas.Nat.{pow_below, pow-add}
use Rattle.raw_switch_isa.proofs.Words.{digits_word}
use Rattle.raw_switch_isa.proofs.code.routes_word.Goals as goal

pub loop-code-preserved : goal.loop-code-preserved
loop-code-preserved c =
    let k = c.loop-code.code-index in
    let more = number_more 8 c.args.routes.now k (omega arith) in
    let room : 2 ^ (3 * k) < 2 ^ 28 = pow_below (3 * k) 28 (omega arith) in
    let next : 2 ^ (3 * (k + 1)) ≡ 2 ^ (3 * k) * 8 = ap (λ n. 2 ^ n) (omega arith) ∙ pow-add 2 (3 * k) 3 in
    record { digits = omega arith; small = omega (arith, c.requires k 0) }

pub returns-clause-word : goal.returns-clause-word
returns-clause-word c =
    let all = ap (number_from_digits 8) (take_all c.loop-code.code-index c.args.routes.now (omega arith)) in
    let placed = digits_word c.args.routes.now c.told-routes in
    let room : 2 ^ (3 * c.loop-code.code-index) < 2 ^ 31 = pow_below (3 * c.loop-code.code-index) 31 (omega arith) in
    omega arith
