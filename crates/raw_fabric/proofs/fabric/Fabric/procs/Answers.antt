use Rattle.std.proofs.Common.{sym, ap, ◌∙◌}
use Rattle.raw_grid.specs.Topology.{proc_count}
use Rattle.raw_model.specs.Program.{ProgramSet}
use Rattle.raw_fabric_rule.specs.ByEnds.{procs}
use Rattle.raw_fabric.proofs.fabric.Fabric.procs.Goals as goal

pub returns-clause-procs : goal.returns-clause-procs
unfolding procs
returns-clause-procs c = c.procs.ensures.value ∙ ap (λ (x : ProgramSet). proc_count x.topo) (c.set.view_is ∙ sym c.requires.fabric.set_is)
