use Rattle.std.proofs.Common.{◌-◌}
use Rattle.raw_grid.specs.Topology.{proc_count}
use Rattle.raw_debug.specs.Walking.{AllStopped, PassesStopped}
use Rattle.raw_debug.proofs.passing.Passing.at.Given as goal

abbrev pub invariant-loop-i : goal.invariant-loop-i
invariant-loop-i l = record {
  passes : PassesStopped l.machine.set l.machine.state l.passing.ends;
  behind : AllStopped l.machine.set l.machine.state (proc_count l.machine.set.topo - l.i) l.end;
}
