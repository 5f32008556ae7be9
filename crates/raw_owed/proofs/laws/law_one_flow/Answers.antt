use Rattle.raw_owed.proofs.laws.law_one_flow.Goals as goal

pub returns : goal.returns
returns c = λ input. record { flow = c.law_one_text.ensures input; stream = c.law_one_text-2.ensures input }
