use Rattle.std.proofs.Common.{◌≡◌, [], get_or, Some, None, refl, sym, ap, ◌∙◌}
use Rattle.raw_text.specs.Number.{number_of}
use Rattle.raw_asm.specs.Tokens.{tokens_of}
use Rattle.raw_lines.proofs.Heads.{head_made}
use Rattle.raw_lines.proofs.section.begun_by.Goals as goal

pub returns-in_err-x : goal.returns-in_err-x
returns-in_err-x c =
    let operands = tokens_of c.args.operands.now in
    let x : number_of (get_or operands 0 []) ≡ None = sym (c.in_err-x.ensures ∙ ap number_of c.at.ensures) in
    c.from_residual.ensures ∙ sym (head_made c.args.place c.args.kind operands c.requires.two None (number_of (get_or operands 1 [])) x refl)

pub returns-in_err-y : goal.returns-in_err-y
returns-in_err-y c =
    let operands = tokens_of c.args.operands.now in
    let x : number_of (get_or operands 0 []) ≡ Some c.in_ok-x.x = sym (c.in_ok-x.ensures ∙ ap number_of c.at.ensures) in
    let y : number_of (get_or operands 1 []) ≡ None = sym (c.in_err-y.ensures ∙ ap number_of c.at-2.ensures) in
    c.from_residual-in_err-y.ensures ∙ sym (head_made c.args.place c.args.kind operands c.requires.two (Some c.in_ok-x.x) None x y)

pub returns : goal.returns
returns c =
    let operands = tokens_of c.args.operands.now in
    let x : number_of (get_or operands 0 []) ≡ Some c.in_ok-x.x = sym (c.in_ok-x.ensures ∙ ap number_of c.at.ensures) in
    let y : number_of (get_or operands 1 []) ≡ Some c.in_ok-y.y = sym (c.in_ok-y.ensures ∙ ap number_of c.at-2.ensures) in
    sym (head_made c.args.place c.args.kind operands c.requires.two (Some c.in_ok-x.x) (Some c.in_ok-y.y) x y)
