use Rattle.std.proofs.Common.{◌≡◌, ◌<◌, [], length, map, slice_index_or, sym, ap, subst, ◌∙◌, arith}
use Rattle.std.proofs.lemmas.Bool.Decides.{nat_tests}
use Rattle.raw_text.specs.Lines.{lines_of, tokens_of, first_fault, IsCause}
use Rattle.raw_live_text.specs.Heads.{word_end}
use Rattle.raw_live_text.proofs.Judging.{the_fault, text_is}
use Rattle.raw_live_text.proofs.HeadLines.{empty_open, end_by_word, end_not_ascii, end_long}
use Rattle.raw_live_text.proofs.head.line_end.Goals as goal

pub returns-then-is_empty : goal.returns-then-is_empty
returns-then-is_empty c = empty_open c.args.word.now c.args.number c.args.line.now (grind (arith, nat_tests, c.is_empty.ensures, c.if-is_empty.true))

pub word_end-requires : goal.word_end-requires
word_end-requires c =
    let some : 0 < length c.args.line.now = grind (arith, nat_tests, c.is_empty.ensures, c.if-is_empty.false) in
    let same : c.in-Ok.bytes.items ≡ c.args.line.now = c.in-Ok.ensures.items_if_clones_equal (λ x y e. e) in
    let is = text_is c.args.line.now c.requires.free some _ (c.in-Ok-read_text.ensures.lines ∙ ap (λ l. map tokens_of (lines_of l)) same) in
    omega (arith, ap length is)

pub returns-in-Ok-read_text : goal.returns-in-Ok-read_text
returns-in-Ok-read_text c =
    let some : 0 < length c.args.line.now = grind (arith, nat_tests, c.is_empty.ensures, c.if-is_empty.false) in
    let same : c.in-Ok.bytes.items ≡ c.args.line.now = c.in-Ok.ensures.items_if_clones_equal (λ x y e. e) in
    let is = text_is c.args.line.now c.requires.free some _ (c.in-Ok-read_text.ensures.lines ∙ ap (λ l. map tokens_of (lines_of l)) same) in
    let none = sym (the_fault c.args.line.now c.requires.free some) ∙ ap (λ l. first_fault 1 (lines_of l)) (sym same) ∙ c.in-Ok-read_text.ensures.faultless in
    c.word_end.ensures ∙ ap (λ l. word_end c.args.word.now c.args.number (slice_index_or l 0 [])) is ∙ end_by_word c.args.word.now c.args.number c.args.line.now none

pub returns-in-Err-NotAscii : goal.returns-in-Err-NotAscii
returns-in-Err-NotAscii c =
    let some : 0 < length c.args.line.now = grind (arith, nat_tests, c.is_empty.ensures, c.if-is_empty.false) in
    let same : c.in-Ok.bytes.items ≡ c.args.line.now = c.in-Ok.ensures.items_if_clones_equal (λ x y e. e) in
    end_not_ascii c.args.word.now c.args.number c.args.line.now _
    (sym (the_fault c.args.line.now c.requires.free some) ∙ ap (λ l. first_fault 1 (lines_of l)) (sym same)
    ∙ subst (λ f. IsCause f (first_fault 1 (lines_of c.in-Ok.bytes.items))) c.in-Err-NotAscii.field-0-is c.in-Err-NotAscii.ensures.cause)

pub returns-in-Err-LineTooLong : goal.returns-in-Err-LineTooLong
returns-in-Err-LineTooLong c =
    let some : 0 < length c.args.line.now = grind (arith, nat_tests, c.is_empty.ensures, c.if-is_empty.false) in
    let same : c.in-Ok.bytes.items ≡ c.args.line.now = c.in-Ok.ensures.items_if_clones_equal (λ x y e. e) in
    end_long c.args.word.now c.args.number c.args.line.now _
    (sym (the_fault c.args.line.now c.requires.free some) ∙ ap (λ l. first_fault 1 (lines_of l)) (sym same)
    ∙ subst (λ f. IsCause f (first_fault 1 (lines_of c.in-Ok.bytes.items))) c.in-Err-LineTooLong.field-0-is c.in-Err-LineTooLong.ensures.cause)
