use Rattle.std.proofs.Common.{◌≡◌, drop}
use Rattle.raw_term.specs.Verdicts.{compared}
use Rattle.raw_prove.proofs.comparing.compared.Given as goal

abbrev pub invariant-loop-k : goal.invariant-loop-k
invariant-loop-k l = compared l.table l.k (drop l.k l.got) (drop l.k l.claimed) ≡ compared l.table 0 l.got l.claimed
