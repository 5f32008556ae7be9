use Rattle.std.proofs.Common.{◌≡◌, refl, ap, ◌∙◌}
use Rattle.raw_grid.specs.Topology.{proc_count}
use Rattle.raw_model.specs.Program.{ProgramSet}
use Rattle.raw_path.proofs.Reaching.{unseen}
use Rattle.raw_path.proofs.Starting.{none_known}
use Rattle.raw_path.proofs.seen.unseen.Goals as goal

pub returns : goal.returns
returns c =
    let set = c.args.set.now in
    let many : c.procs.result ≡ proc_count set.topo = c.procs.ensures.value ∙ ap (λ (s : ProgramSet). proc_count s.topo) c.set.view_is in
    none_known set c.procs.result unseen c.in_ok-seen.seen.items many (c.in_ok-seen.ensures.items_if_clones_equal (λ y e. e)) refl refl refl refl
