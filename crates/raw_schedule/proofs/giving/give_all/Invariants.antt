use Rattle.raw_schedule.specs.Given.{AreGiven}
use Rattle.raw_schedule.proofs.giving.give_all.Given as goal

-- the tiles so far have been given their programs
abbrev pub invariant-loop-tile : goal.invariant-loop-tile
invariant-loop-tile l = AreGiven l.topo l.initial.programs → AreGiven l.topo l.programs
