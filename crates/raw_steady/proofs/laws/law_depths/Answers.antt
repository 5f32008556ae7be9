use Rattle.raw_steady.proofs.Depths.{ahead, no_longer}
use Rattle.raw_steady.proofs.Settled.{still}
use Rattle.raw_clock.specs.Clock.{clock, clock_turns}
use Rattle.raw_clock.proofs.Clocking.{clock_length}
use Rattle.raw_steady.proofs.laws.law_depths.Goals as goal

pub returns-clause-ahead : goal.returns-clause-ahead
returns-clause-ahead c = λ set d k p valid le. ahead set d valid le k p

pub returns-clause-no_longer : goal.returns-clause-no_longer
returns-clause-no_longer c = λ set d n m valid le has has' free. no_longer set d valid le n m has has' (λ p below. still set d valid le (clock set n) (clock_length set valid (clock_turns set n)) has.over free p below)
