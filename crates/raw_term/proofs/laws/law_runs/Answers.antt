use Rattle.raw_term.proofs.Own.{run_short, rest_alike}
use Rattle.raw_term.proofs.laws.law_runs.Goals as goal

pub returns-clause-short : goal.returns-clause-short
returns-clause-short c = λ set n ps valid free.
    run_short (record { words = c.law_words.ensures.operations; same_rest = c.law_same_rest.ensures.same_rest }) c.law_bound.ensures.most_steps set valid n ps free

pub returns-clause-alike : goal.returns-clause-alike
returns-clause-alike c = λ set n steps valid run free rests.
    rest_alike (record { words = c.law_words.ensures.operations; same_rest = c.law_same_rest.ensures.same_rest }) c.law_bound.ensures.most_steps set valid n steps run free rests
