use Rattle.std.specs.Prelude.{None}
use Rattle.raw_answer.proofs.Texts.{one_text}
use Rattle.raw_set_text.specs.declared.kind.SetKind.TheVariants.{NotAscii, LineTooLong}
use Rattle.raw_set_text.specs.Texts.{token_lines}
use Rattle.raw_stream_text.specs.Meaning.{IsMeaning, IsFault, IsFed}
use Rattle.raw_stream_text.proofs.laws.law_one_text.Goals as goal

pub returns : goal.returns
returns c bytes = one_text NotAscii LineTooLong (IsFault None 0) bytes (IsMeaning None) (IsFed None) (c.law_one_answer.ensures None 0 (token_lines bytes))
