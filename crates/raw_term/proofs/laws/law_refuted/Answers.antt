use Rattle.raw_term.proofs.laws.law_refuted.Goals as goal

pub returns : goal.returns
returns c = λ set flow places inputs refuted meets.
    refuted.wrong refuted.some.0 refuted.some.1 ((meets inputs refuted.are).right refuted.some.0 refuted.some.1)
