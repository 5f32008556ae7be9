use Rattle.std.proofs.Common.{◌≡◌, ◌∙◌, Option, Some, sym, subst}
use Rattle.std.specs.Prelude.{IfSome}
use Rattle.std.proofs.lemmas.Option.{none-some}
use Rattle.raw_text.specs.Text.{text_lines}
use Rattle.raw_set_text.specs.Texts.{token_lines}
use Rattle.raw_stream_text.specs.Meaning.{IsFed}
use Rattle.raw_row_claim_text.specs.declared.claim.RowClaim.{RowClaim}
use Rattle.raw_row_claim_text.specs.Meaning.{Says}
use Rattle.raw_inputs.proofs.SaidClaims.{row_claim_so, flow_claim_so}
use Rattle.raw_inputs.proofs.claims.claim_in.Goals as goal

pub returns-in-Some-clause-meaning : goal.returns-in-Some-clause-meaning
returns-in-Some-clause-meaning c =
    let lines : text_lines c.in-Ok.text ≡ token_lines c.args.input.items = c.in-Ok.ensures.lines in
    row_claim_so c.args.input.items (text_lines c.in-Ok.text) c.in-Some.claim.set c.in-Some.claim.input c.in-Ok.ensures.faultless lines
    (λ none. none-some c.in-Some.claim (sym (c.in-Ok-read_row_claim.ensures.none.1 none) ∙ c.in-Some.is))
    (subst (λ (rows : Option RowClaim). IfSome rows (λ (claim : RowClaim). Says (text_lines c.in-Ok.text) (claim.set, claim.input))) c.in-Some.is c.in-Ok-read_row_claim.ensures.meaning)
    (subst (λ (rows : Option RowClaim). IfSome rows (λ (claim : RowClaim). IsFed (Some claim.set.topo) claim.input)) c.in-Some.is c.in-Ok-read_row_claim.ensures.fed)

pub returns-in-Ok-read_claim-clause-meaning : goal.returns-in-Ok-read_claim-clause-meaning
returns-in-Ok-read_claim-clause-meaning c =
    let lines : text_lines c.in-Ok.text ≡ token_lines c.args.input.items = c.in-Ok.ensures.lines in
    flow_claim_so c.args.input.items (text_lines c.in-Ok.text) c.in-Ok-read_claim.claim.set c.in-Ok-read_claim.claim.flow c.in-Ok-read_claim.claim.places.items c.in-Ok.ensures.faultless lines
    (c.in-Ok-read_row_claim.ensures.none.0 c.in-None.is) c.in-Ok-read_claim.ensures.meaning
