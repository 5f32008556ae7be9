use Rattle.std.proofs.Common.{◌∙◌, ap, sym}
use Rattle.raw_text.specs.Number.{number_of}
use Rattle.raw_report.specs.History.{within}
use Rattle.raw_report.proofs.Places.{not_one, one, within_below, within_above}
use Rattle.raw_report.proofs.history.entry_at.Goals as goal

pub returns-then-tokens_in-ne1 : goal.returns-then-tokens_in-ne1
returns-then-tokens_in-ne1 c = sym (not_one c.args.procs _ (λ is. c.if-tokens_in-ne1.true (c.tokens_in.ensures ∙ is)))

pub returns-in-Some : goal.returns-in-Some
returns-in-Some c =
    let number = ap number_of (sym c.token.ensures) ∙ sym c.number.ensures ∙ c.in-Some.is in
    sym (one c.args.procs _ (sym c.tokens_in.ensures ∙ c.if-tokens_in-ne1.false) ∙ ap (within c.args.procs) number ∙ within_below c.args.procs c.in-Some.p c.if-p-procs.true)

pub returns-in_default : goal.returns-in_default
returns-in_default c =
    let number = ap number_of (sym c.token.ensures) ∙ sym c.number.ensures ∙ c.in-Some.is in
    sym (one c.args.procs _ (sym c.tokens_in.ensures ∙ c.if-tokens_in-ne1.false) ∙ ap (within c.args.procs) number ∙ within_above c.args.procs c.in-Some.p c.if-p-procs.false)

pub returns-in_default-2 : goal.returns-in_default-2
returns-in_default-2 c =
    let number = ap number_of (sym c.token.ensures) ∙ sym c.number.ensures ∙ c.in_default.is in
    sym (one c.args.procs _ (sym c.tokens_in.ensures ∙ c.if-tokens_in-ne1.false) ∙ ap (within c.args.procs) number)
