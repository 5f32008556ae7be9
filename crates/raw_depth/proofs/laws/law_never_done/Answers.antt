use Rattle.raw_depth.proofs.Never.{cycle_stays, never_done}
use Rattle.raw_depth.proofs.laws.law_never_done.Goals as goal

pub returns-clause-stays : goal.returns-clause-stays
returns-clause-stays c = λ set d h g p ps valid le short long cycle. cycle_stays set d valid le h g short long p ps cycle

pub returns-clause-never : goal.returns-clause-never
returns-clause-never c = λ set d h g p ps valid some short long cycle. never_done set d h g p ps valid some short long cycle
