use Rattle.std.proofs.Common.{◌≡◌, ◌≤◌, ◌-◌}
use Rattle.raw_grid.specs.Topology.{proc_count}
use Rattle.raw_debug.specs.Walking.{NoneEnabled}
use Rattle.raw_debug.proofs.walk.Walk.sweep_on.Given as goal

abbrev pub invariant-turns : goal.invariant-turns
invariant-turns l =
    let old = l.fn.self in
    record {
      set : l.self.machine.set ≡ old.machine.set;
      state : l.self.machine.state ≡ old.machine.state;
      moment : l.self.moment ≡ old.moment;
      alone : l.self.alone ≡ old.alone;
      passing : l.self.passing ≡ old.passing;
      from : old.next ≤ l.p;
      none : NoneEnabled old.machine.set old.machine.state old.next l.p;
    }

abbrev pub decreases-turns : goal.decreases-turns
decreases-turns l = proc_count l.fn.self.machine.set.topo - l.p
