use Rattle.raw_steady.proofs.Streams.{ahead, no_longer}
use Rattle.raw_steady.proofs.laws.law_misses.Goals as goal

pub returns-clause-ahead : goal.returns-clause-ahead
returns-clause-ahead c = λ set other k p valid also is. ahead set other valid also is k p

pub returns-clause-no_longer : goal.returns-clause-no_longer
returns-clause-no_longer c = λ set other n m valid also is has has'. no_longer set other valid also is n m has has'
