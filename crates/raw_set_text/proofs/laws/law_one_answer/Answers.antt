use Rattle.raw_set_text.proofs.Lawful.Answers.{one_answer}
use Rattle.raw_set_text.proofs.laws.law_one_answer.Goals as goal

pub returns : goal.returns
returns c = λ lines. one_answer c.law_lawful.ensures c.law_lawful-2.ensures lines
