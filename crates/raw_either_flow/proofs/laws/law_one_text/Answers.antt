use Rattle.std.specs.Prelude.{None}
use Rattle.raw_answer.proofs.Texts.{one_text}
use Rattle.raw_set_text.specs.declared.kind.SetKind.TheVariants.{NotAscii, LineTooLong}
use Rattle.raw_set_text.specs.Texts.{token_lines}
use Rattle.raw_stream_text.specs.Meaning.{is_stream}
use Rattle.raw_either_flow.specs.Placed.{IsPlacedFlow}
use Rattle.raw_either_flow.specs.Texts.{IsMeaning, IsFault}
use Rattle.raw_either_flow.proofs.OneText.{one_of}
use Rattle.raw_either_flow.proofs.laws.law_one_text.Goals as goal

pub returns : goal.returns
returns c bytes =
    let lines = token_lines bytes in
    one_text NotAscii LineTooLong IsFault bytes IsMeaning IsPlacedFlow
    (one_of c.law_placed.ensures (is_stream lines) lines (c.law_one_answer.ensures None 0 lines) (c.law_one_answer-2.ensures None 0 lines))
