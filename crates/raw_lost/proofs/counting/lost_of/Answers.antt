use Rattle.std.proofs.Common.{◌≡◌, refl, sym, ap, ◌∙◌, subst}
use Rattle.raw_grid.specs.Topology.{proc_count}
use Rattle.raw_model.specs.Program.{ProgramSet}
use Rattle.raw_whole.proofs.Lists.{put_back}
use Rattle.raw_lost.specs.declared.lost.Lost.{Lost}
use Rattle.raw_lost.specs.Known.{AreLost}
use Rattle.raw_lost.proofs.Counts.{none_lost}
use Rattle.raw_lost.proofs.counting.lost_of.Goals as goal

pub count_cycles-requires-clause-lost : goal.count_cycles-requires-clause-lost
count_cycles-requires-clause-lost c =
    let set = c.args.set.now in
    let many : c.procs-procs.result ≡ proc_count set.topo = c.procs-procs.ensures.value ∙ ap (λ (s : ProgramSet). proc_count s.topo) c.set.view_is in
    let none : Lost = record { tiles = 0; switches = 0; ports = 0; stalled = 0; stopped = 0; ring = 0 } in
    subst (λ s. AreLost s 0 c.deref_mut-3.result.now) (sym c.in_ok-machine.ensures.set)
    (subst (AreLost set 0) (sym c.deref_mut-3.ensures.value)
    (none_lost set c.procs-procs.result none c.in_ok-lost.lost.items many (c.in_ok-lost.ensures.items_if_clones_equal (λ y e. e)) refl))

pub returns : goal.returns
returns c =
    let set = c.args.set.now in
    let many : c.procs-procs.result ≡ proc_count set.topo = c.procs-procs.ensures.value ∙ ap (λ (s : ProgramSet). proc_count s.topo) c.set.view_is in
    let none : Lost = record { tiles = 0; switches = 0; ports = 0; stalled = 0; stopped = 0; ring = 0 } in
    let was = (none_lost set c.procs-procs.result none c.in_ok-lost.lost.items many (c.in_ok-lost.ensures.items_if_clones_equal (λ y e. e)) refl).many in
    let is : AreLost set c.args.cycles c.count_cycles.new.lost = subst (λ s. AreLost s c.args.cycles c.count_cycles.new.lost) c.in_ok-machine.ensures.set c.count_cycles.ensures in
    subst (AreLost set c.args.cycles) (sym (put_back _ c.count_cycles.new.lost c.in_ok-lost.lost.items (c.in_ok-lost.lost.ok.0 ∙ was ∙ sym is.many))) is
