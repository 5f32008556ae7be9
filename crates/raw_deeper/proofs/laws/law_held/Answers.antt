use Rattle.raw_deeper.proofs.Held.{law_stays_held}
use Rattle.raw_deeper.proofs.laws.law_held.Goals as goal

pub returns : goal.returns
returns L c = λ net producer consumer inputs outputs wired. law_stays_held net producer consumer inputs outputs wired
