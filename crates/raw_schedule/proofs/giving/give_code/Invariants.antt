use Rattle.raw_grid.specs.Topology.{Topology}
use Rattle.raw_schedule.specs.Given.{AreGiven}
use Rattle.raw_schedule.proofs.giving.give_code.Given as goal

-- the instructions so far have been given
abbrev pub invariant-loop-ins : goal.invariant-loop-ins
invariant-loop-ins l = (topo : Topology) → AreGiven topo l.initial.programs → AreGiven topo l.programs
