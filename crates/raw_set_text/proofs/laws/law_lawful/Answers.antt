use Rattle.raw_set_text.proofs.laws.law_lawful.Goals as goal

pub returns : goal.returns
returns c = λ lines set is. (c.law_one_answer.ensures lines).valid set is
