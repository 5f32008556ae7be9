use Rattle.raw_pace.proofs.Path.{law_none_below_chain, law_chain_of_each}
use Rattle.raw_pace.proofs.Waiting.{law_needs_go_on, law_wait_is_need, law_way_is_chain, law_way_is_deep_chain, law_are_never}
use Rattle.raw_pace.proofs.laws.law_path.Goals as goal

pub returns-clause-none_below : goal.returns-clause-none_below
returns-clause-none_below L c = λ net producer consumer wired. law_none_below_chain net producer consumer wired

pub returns-clause-of_each : goal.returns-clause-of_each
returns-clause-of_each L c = λ net producer consumer wired. law_chain_of_each net producer consumer wired

pub returns-clause-go_on : goal.returns-clause-go_on
returns-clause-go_on L c = λ net. law_needs_go_on net

pub returns-clause-waits : goal.returns-clause-waits
returns-clause-waits L c = λ net producer consumer inputs outputs wired. law_wait_is_need net producer consumer inputs outputs wired

pub returns-clause-way : goal.returns-clause-way
returns-clause-way L c = λ net producer consumer inputs outputs wired covered. law_way_is_chain net producer consumer inputs outputs wired covered

pub returns-clause-deep : goal.returns-clause-deep
returns-clause-deep L c = λ net producer consumer inputs outputs wired covered. law_way_is_deep_chain net producer consumer inputs outputs wired covered

pub returns-clause-never : goal.returns-clause-never
returns-clause-never L c = λ net producer consumer wired s. law_are_never net producer consumer wired s
