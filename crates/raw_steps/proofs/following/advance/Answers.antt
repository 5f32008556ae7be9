use Rattle.std.proofs.Common.{ℕ, ◌%◌, ◌<◌, length, ◌∙◌, arith}
use Rattle.raw_grid.specs.Topology.{proc_count}
use Rattle.raw_steps.proofs.Fronts.{log_there}
use Rattle.raw_steps.proofs.following.advance.Goals as goal

pub wait_for_next-requires : goal.wait_for_next-requires
wait_for_next-requires c =
    let left = c.take_log.new.left in
    let w : ℕ = c.in-Some.p.0 % length c.args.left.now in
    let below : w < length c.args.left.now = omega (arith, c.requires.some_log) in
    let there : w < length left = omega (arith, below, c.take_log.auto.left) in
    log_there left w there c.take_log.new.m.set c.take_log.new.m.state c.take_log.ensures.can.joining (proc_count c.take_log.new.m.set.topo)
    (c.procs-procs.ensures.locals ∙ c.procs-procs.ensures.value)
