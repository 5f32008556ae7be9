use Rattle.std.proofs.Common.{◌∙◌}
use Rattle.raw_grid.specs.Topology.{proc_count}
use Rattle.raw_steps.specs.Taking.{numbers}
use Rattle.raw_steps.specs.Left.{entries_of}
use Rattle.raw_steps.proofs.Fronts.{log_there, on_more}
use Rattle.raw_steps.proofs.following.follow.Goals as goal

pub wait_for_next-requires : goal.wait_for_next-requires
wait_for_next-requires c =
    log_there c.args.left.now c.args.w c.requires.there c.args.m.now.set c.args.m.now.state c.requires.can.joining (proc_count c.args.m.now.set.topo)
    (c.procs-procs.ensures.locals ∙ c.procs-procs.ensures.value)

pub awaited-preserved : goal.awaited-preserved
awaited-preserved c = record {
  can = c.advance.ensures.can;
  on = on_more c.law_taken.ensures.both c.args.m.now c.awaited.m c.advance.new.m (entries_of c.args.left.now) (entries_of c.awaited.left) (entries_of c.advance.new.left)
      (numbers c.args.woven.now.items) (numbers c.awaited.woven.items) (numbers c.advance.new.woven.items) c.awaited.invariant.on c.advance.ensures.on;
}

pub returns-clause-on : goal.returns-clause-on
returns-clause-on c =
    on_more c.law_taken.ensures.both c.args.m.now c.awaited.m c.advance.new.m (entries_of c.args.left.now) (entries_of c.awaited.left) (entries_of c.advance.new.left)
    (numbers c.args.woven.now.items) (numbers c.awaited.woven.items) (numbers c.advance.new.woven.items) c.awaited.invariant.on c.advance.ensures.on
