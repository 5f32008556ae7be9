use Rattle.raw_serial.specs.Leading.{RunsOn}
use Rattle.raw_serial.proofs.turns.take_turns.Given as goal

abbrev pub invariant-turns : goal.invariant-turns
invariant-turns l = RunsOn l.set l.p.0 l.initial.processor l.processor l.initial.wires l.wires l.most l.left

abbrev pub decreases-turns : goal.decreases-turns
decreases-turns l = l.left
