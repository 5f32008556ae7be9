use Rattle.std.proofs.Common.{◌+◌, Some, codes, drop}
use Rattle.raw_answer.proofs.Texts.{one_text}
use Rattle.raw_set_text.specs.declared.kind.SetKind.TheVariants.{NotAscii, LineTooLong}
use Rattle.raw_set_text.specs.Texts.{token_lines}
use Rattle.raw_claim_text.proofs.Behind.{one_claimed}
use Rattle.raw_stream_text.specs.Meaning.{IsFed}
use Rattle.raw_row_claim_text.specs.Meaning.{Claims, ClaimsNot, Says, IsSaid, IsFault}
use Rattle.raw_row_claim_text.proofs.laws.law_one_text.Goals as goal

pub returns : goal.returns
returns c bytes =
    let lines = token_lines bytes in
    one_text NotAscii LineTooLong IsFault bytes Says IsSaid
    (one_claimed c.law_one_answer.ensures (codes "claim") lines Claims ClaimsNot (λ set fed. IsFed (Some set.topo) fed)
    (λ place set. c.law_one_answer-2.ensures (Some set.topo) (place + 1) (drop (place + 1) lines)))
