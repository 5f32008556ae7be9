use Rattle.raw_answer.proofs.Texts.{no_memory}
use Rattle.raw_answer.proofs.laws.law_text_faults.Goals as goal

pub returns : goal.returns
returns c = no_memory
