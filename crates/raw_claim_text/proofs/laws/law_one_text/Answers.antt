use Rattle.std.proofs.Common.{◌+◌, Some, codes, drop, map}
use Rattle.raw_answer.proofs.Texts.{one_text}
use Rattle.raw_set_text.specs.declared.kind.SetKind.TheVariants.{NotAscii, LineTooLong}
use Rattle.raw_set_text.specs.Texts.{token_lines}
use Rattle.raw_flow_text.specs.Flows.{IsFed}
use Rattle.raw_claim_text.specs.Forms.{plain_line}
use Rattle.raw_claim_text.specs.Lines.{size_of}
use Rattle.raw_claim_text.specs.Meaning.{Claims, ClaimsNot, Says, IsSaid, IsFault}
use Rattle.raw_claim_text.proofs.Lines.{one_claim}
use Rattle.raw_claim_text.proofs.Behind.{one_claimed}
use Rattle.raw_claim_text.proofs.laws.law_one_text.Goals as goal

pub returns : goal.returns
returns c bytes =
    let lines = token_lines bytes in
    one_text NotAscii LineTooLong IsFault bytes Says IsSaid
    (one_claimed c.law_one_answer.ensures (codes "claim") lines Claims ClaimsNot (λ set claim. IsFed claim.fed)
    (λ place set. one_claim set.topo (place + 1) (drop (place + 1) lines) (c.law_one_answer-2.ensures (Some (size_of set.topo)) (place + 1) (map plain_line (drop (place + 1) lines)))))
