use Rattle.raw_steady.proofs.Roots.{each_root_is_needed}
use Rattle.raw_steady.proofs.Rings.{each_ring_is_never}
use Rattle.raw_steady.proofs.Shares.{shares_add_up}
use Rattle.raw_steady.proofs.laws.law_roots.Goals as goal

pub returns-clause-needed : goal.returns-clause-needed
returns-clause-needed c = λ set valid. each_root_is_needed set valid

pub returns-clause-shares : goal.returns-clause-shares
returns-clause-shares c = λ set n p valid below. shares_add_up set valid n p below

pub returns-clause-rings : goal.returns-clause-rings
returns-clause-rings c = λ set valid. each_ring_is_never set valid
