use Rattle.std.proofs.Common.{◌<◌, sym, ap, ◌∙◌, subst}
use Rattle.raw_grid.specs.Topology.{proc_count}
use Rattle.raw_model.specs.Program.{ProgramSet}
use Rattle.raw_fabric_rule.specs.ByEnds.{procs}
use Rattle.raw_fabric.proofs.fabric.Fabric.take_turns.Goals as goal

pub kind_of-requires : goal.kind_of-requires
unfolding procs
kind_of-requires g c =
    subst (λ n. c.args.post.now.p < n) (sym (ap (λ (x : ProgramSet). proc_count x.topo) (c.set.view_is ∙ sym c.requires.stands.fabric.set_is))) c.requires.stands.holds.there
