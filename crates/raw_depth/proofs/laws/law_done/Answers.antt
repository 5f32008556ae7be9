use Rattle.raw_depth.proofs.Done.{still_done, same_local}
use Rattle.raw_depth.proofs.laws.law_done.Goals as goal

pub returns-clause-done : goal.returns-clause-done
returns-clause-done c = λ set d h g valid deep le short long done. still_done set valid h short done d le g long deep

pub returns-clause-same : goal.returns-clause-same
returns-clause-same c = λ set d h g valid le short long done p l here no'. same_local set valid h short done d le g long p l here no'
