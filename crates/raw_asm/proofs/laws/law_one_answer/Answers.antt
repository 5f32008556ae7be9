use Rattle.raw_asm.proofs.Answers.{one_answer}
use Rattle.raw_asm.proofs.laws.law_one_answer.Goals as goal

pub returns : goal.returns
returns g c = λ language lines. one_answer language lines
