use Rattle.std.proofs.Common.{◌<◌, subst}
use Rattle.raw_grid.specs.Topology.{proc_count}
use Rattle.raw_model.specs.Program.{ProgramSet}
use Rattle.raw_debug.proofs.Following.{some_processor}
use Rattle.raw_debug.proofs.debugger.Debugger.open_for.Goals as goal

pub invariant_of-result : goal.invariant_of-result
invariant_of-result c =
    subst (λ (set : ProgramSet). 0 < proc_count set.topo) c.machine.ensures.set (some_processor c.machine.result.now.set c.set-set.ensures.valid)
