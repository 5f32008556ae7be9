use Rattle.raw_answer.proofs.Texts.{one_text}
use Rattle.raw_model.specs.Program.{IsSet}
use Rattle.raw_set_text.specs.declared.kind.SetKind.TheVariants.{NotAscii, LineTooLong}
use Rattle.raw_set_text.specs.Texts.{token_lines}
use Rattle.raw_set_text.specs.Meaning.{IsMeaning, IsFault}
use Rattle.raw_set_text.proofs.laws.law_one_text.Goals as goal

pub returns : goal.returns
returns c bytes = one_text NotAscii LineTooLong IsFault bytes IsMeaning IsSet (c.law_one_answer.ensures (token_lines bytes))
