use Rattle.std.proofs.Common.{◌+◌}
use Rattle.raw_grid.specs.Topology.{Topology, tile_count}
use Rattle.raw_schedule.specs.Given.{AreGiven}
use Rattle.raw_model.specs.Wired.{AreWired}
use Rattle.raw_schedule.proofs.giving.give_switch_code.Given as goal

-- the instructions so far have been given
abbrev pub invariant-loop-ins : goal.invariant-loop-ins
invariant-loop-ins l = (topo : Topology) → AreWired topo (tile_count topo + l.tile) l.wired → AreGiven topo l.initial.programs → AreGiven topo l.programs
