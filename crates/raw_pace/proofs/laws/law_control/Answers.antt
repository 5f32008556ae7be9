use Rattle.raw_pace.proofs.Control.{law_same_cycles, law_same_turns, law_same_waits, law_same_stops}
use Rattle.raw_pace.proofs.laws.law_control.Goals as goal

pub returns-clause-cycles : goal.returns-clause-cycles
returns-clause-cycles g c = λ a b producer consumer wa wb. law_same_cycles a b producer consumer wa wb

pub returns-clause-turns : goal.returns-clause-turns
returns-clause-turns g c = λ a b producer consumer wa wb. law_same_turns a b producer consumer wa wb

pub returns-clause-waits : goal.returns-clause-waits
returns-clause-waits g c = λ a b producer consumer inputs outputs wa wb. law_same_waits a b producer consumer wa wb inputs outputs

pub returns-clause-stops : goal.returns-clause-stops
returns-clause-stops g c = λ a b producer consumer wa wb. law_same_stops a b producer consumer wa wb
