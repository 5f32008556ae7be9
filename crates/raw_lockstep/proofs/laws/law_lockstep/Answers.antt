use Rattle.std.specs.Prelude.{IsTrue}
use Rattle.raw_lockstep.proofs.Cycling.{law_cycle_is_round, law_any_order, law_cycles_are_lawful, law_none_sooner, law_none_rests_sooner, law_empty_is_quiet, law_at_most_once, law_cycles_rest}
use Rattle.raw_lockstep.proofs.laws.law_lockstep.Goals as goal

pub returns-clause-cycle : goal.returns-clause-cycle
returns-clause-cycle L c = λ net. law_cycle_is_round net

pub returns-clause-any_order : goal.returns-clause-any_order
returns-clause-any_order L c = λ net producer consumer wired. law_any_order net producer consumer wired

pub returns-clause-lawful : goal.returns-clause-lawful
returns-clause-lawful L c = λ net producer consumer wired. law_cycles_are_lawful net producer consumer wired

pub returns-clause-none_sooner : goal.returns-clause-none_sooner
returns-clause-none_sooner L c = λ net producer consumer wired. law_none_sooner net producer consumer wired

pub returns-clause-none_rests_sooner : goal.returns-clause-none_rests_sooner
returns-clause-none_rests_sooner L c = λ net producer consumer wired. law_none_rests_sooner net producer consumer wired

pub returns-clause-empty : goal.returns-clause-empty
returns-clause-empty L c = λ net. law_empty_is_quiet net

pub returns-clause-at_most_once : goal.returns-clause-at_most_once
returns-clause-at_most_once L c = λ net. law_at_most_once net

pub returns-clause-rest : goal.returns-clause-rest
returns-clause-rest L c =
    λ net producer consumer fit left wired bounded.
    law_cycles_rest net producer consumer wired (λ p l. IsTrue (fit p l)) left bounded
