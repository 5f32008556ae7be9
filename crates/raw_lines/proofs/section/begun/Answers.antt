use Rattle.std.proofs.Common.{◌≡◌, [], get_or, drop, Some, None, sym, ap, ◌∙◌, arith}
use Rattle.raw_asm.specs.Tokens.{tokens_of}
use Rattle.raw_lines.specs.Sections.{kind_named, begun_by}
use Rattle.raw_lines.proofs.Heads.{begun_is, none_but_three}
use Rattle.raw_lines.proofs.section.begun.Goals as goal

pub returns-then-len-ne3 : goal.returns-then-len-ne3
returns-then-len-ne3 c = none_but_three c.args.place (tokens_of c.args.line.now) (λ e. omega (arith, e, c.len.ensures, c.if-len-ne3.true))

pub returns-in_err-kind : goal.returns-in_err-kind
returns-in_err-kind c =
    let line = tokens_of c.args.line.now in
    let named : kind_named (get_or line 0 []) ≡ None = sym (c.in_err-kind.ensures ∙ ap kind_named c.at.ensures) in
    c.from_residual.ensures ∙ sym (begun_is c.args.place line ∙ ap (λ k. begun_by c.args.place k (drop 1 line)) named)

pub returns : goal.returns
returns c =
    let line = tokens_of c.args.line.now in
    let named : kind_named (get_or line 0 []) ≡ Some c.in_ok-kind.kind = sym (c.in_ok-kind.ensures ∙ ap kind_named c.at.ensures) in
    c.begun_by.ensures ∙ ap (begun_by c.args.place (Some c.in_ok-kind.kind)) c.behind.ensures
    ∙ sym (begun_is c.args.place line ∙ ap (λ k. begun_by c.args.place k (drop 1 line)) named)
