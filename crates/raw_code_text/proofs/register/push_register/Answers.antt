use Rattle.std.proofs.Common.{length, ap, arith, length-append}
use Rattle.std.specs.Fmt.{decimal}
use Rattle.raw_code_text.proofs.Lengths.{byte_length}
use Rattle.raw_code_text.proofs.register.push_register.Goals as goal

pub returns-clause-len : goal.returns-clause-len
returns-clause-len c =
    let is = ap length c.push_number.ensures.text in
    let parts = length-append c.push_text.new.self (decimal c.from.result) in
    let short = byte_length c.from.result (omega (arith, c.ranges.register.fits, c.from.ensures)) in
    omega (arith, is, parts, short, c.push_text.ensures.len)
