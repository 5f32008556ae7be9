use Rattle.std.proofs.Common.{◌++◌, [], ◌∷◌, ap₂, arith, ◌∙◌, append_assoc}
use Rattle.raw_text.specs.Number.{hex_digits}
use Rattle.raw_code_text.proofs.HexDigits.{are_digits}
use Rattle.raw_code_text.proofs.tile_line.push_hex.Goals as goal

pub returns-clause-text : goal.returns-clause-text
returns-clause-text c =
    let n = c.args.imm in
    let digits = are_digits n c.hex_digit-first.result c.hex_digit-second.result c.hex_digit-third.result c.hex_digit-last.result (omega (arith, c.ranges.imm.fits))
    c.hex_digit-first.ensures c.hex_digit-second.ensures c.hex_digit-third.ensures c.hex_digit-last.ensures in
    c.push_text-2.ensures.text ∙ ap₂ (λ x y. x ++ y) c.push_text.ensures.text digits ∙ append_assoc c.args.line.now (48 ∷ 120 ∷ []) (hex_digits 4 n)
