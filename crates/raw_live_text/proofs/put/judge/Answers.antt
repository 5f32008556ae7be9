use Rattle.std.proofs.Common.{◌≡◌, ◌<◌, length, sym, ap, subst, ◌∙◌, arith}
use Rattle.std.proofs.lemmas.Bool.Decides.{nat_tests}
use Rattle.raw_text.specs.Lines.{lines_of, first_fault, IsCause}
use Rattle.raw_live_text.proofs.Judging.{says_nothing, text_is, says_tokens, says_not_ascii, says_long}
use Rattle.raw_live_text.proofs.put.judge.Goals as goal

pub returns-then-is_empty : goal.returns-then-is_empty
returns-then-is_empty c =
    let none : length c.args.line.items ≡ 0 = grind (arith, nat_tests, c.is_empty.ensures, c.if-is_empty.true) in
    sym (says_nothing c.args.intake.now c.args.line.items none)

pub tokens_say-requires : goal.tokens_say-requires
tokens_say-requires c =
    let some : 0 < length c.args.line.items = grind (arith, nat_tests, c.is_empty.ensures, c.if-is_empty.false) in
    let is = text_is c.args.line.items c.requires.free some _ c.in-Ok.ensures.lines in
    omega (arith, ap length is)

pub returns-in-Ok : goal.returns-in-Ok
returns-in-Ok c =
    let some : 0 < length c.args.line.items = grind (arith, nat_tests, c.is_empty.ensures, c.if-is_empty.false) in
    c.tokens_say.ensures ∙ says_tokens c.args.intake.now c.args.line.items c.requires.free some _ c.in-Ok.ensures.lines c.in-Ok.ensures.faultless

pub returns-in-Err-NotAscii : goal.returns-in-Err-NotAscii
returns-in-Err-NotAscii c =
    let some : 0 < length c.args.line.items = grind (arith, nat_tests, c.is_empty.ensures, c.if-is_empty.false) in
    says_not_ascii c.args.intake.now c.args.line.items c.requires.free some _ (subst (λ f. IsCause f (first_fault 1 (lines_of c.args.line.items))) c.in-Err-NotAscii.field-0-is c.in-Err-NotAscii.ensures.cause)

pub returns-in-Err-LineTooLong : goal.returns-in-Err-LineTooLong
returns-in-Err-LineTooLong c =
    let some : 0 < length c.args.line.items = grind (arith, nat_tests, c.is_empty.ensures, c.if-is_empty.false) in
    says_long c.args.intake.now c.args.line.items c.requires.free some _ (subst (λ f. IsCause f (first_fault 1 (lines_of c.args.line.items))) c.in-Err-LineTooLong.field-0-is c.in-Err-LineTooLong.ensures.cause)
