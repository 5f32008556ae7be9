use Rattle.std.proofs.Common.{arith}
use Rattle.raw_grid.specs.Topology.{proc_count}
use Rattle.raw_state_text.proofs.Sections.{failed_numbered, more_numbered, all_numbered}
use Rattle.raw_whole.proofs.writing.put_processors.Goals as goal

pub returns-in_err-put_processor : goal.returns-in_err-put_processor
returns-in_err-put_processor g c =
    failed_numbered _ (proc_count c.args.run.now.machine.now.set.topo) _ c.all.invariant (omega (arith, c.all-test.true, c.procs-procs.ensures.value)) c.in_err-put_processor.ensures c.from_residual.ensures.0

pub all-preserved : goal.all-preserved
all-preserved g c = more_numbered _ (proc_count c.args.run.now.machine.now.set.topo) _ c.all.invariant (omega (arith, c.all-test.true, c.procs-procs.ensures.value)) c.in_ok-put_processor.ensures

pub returns : goal.returns
returns g c = all_numbered _ (proc_count c.args.run.now.machine.now.set.topo) _ c.all.invariant (omega (arith, c.all-test.false, c.procs-procs.ensures.value))
