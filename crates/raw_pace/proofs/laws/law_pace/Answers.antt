use Rattle.raw_pace.proofs.Deeper.{law_deeper_is_ahead, law_deeper_rests_too}
use Rattle.raw_pace.proofs.Sparing.{law_fewer_stalls_are_ahead, law_fewer_stalls_rest_too}
use Rattle.raw_pace.proofs.laws.law_pace.Goals as goal

pub returns-clause-deeper : goal.returns-clause-deeper
returns-clause-deeper L c = λ net producer consumer wired. law_deeper_is_ahead net producer consumer wired

pub returns-clause-deeper_rests : goal.returns-clause-deeper_rests
returns-clause-deeper_rests L c = λ net producer consumer wired. law_deeper_rests_too net producer consumer wired

pub returns-clause-fewer_stalls : goal.returns-clause-fewer_stalls
returns-clause-fewer_stalls L c = λ net producer consumer wired. law_fewer_stalls_are_ahead net producer consumer wired

pub returns-clause-fewer_stalls_rest : goal.returns-clause-fewer_stalls_rest
returns-clause-fewer_stalls_rest L c = λ net producer consumer wired. law_fewer_stalls_rest_too net producer consumer wired
