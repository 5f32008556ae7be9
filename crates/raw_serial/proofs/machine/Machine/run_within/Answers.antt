use Rattle.std.proofs.Common.{◌≡◌, ◌<◌, Some, ap, subst, arith}
use Rattle.std.specs.Prelude.{slice_get, slice_set}
use Rattle.raw_grid.specs.Topology.{proc_count}
use Rattle.raw_serial.specs.Running.{Running}
use Rattle.raw_serial.specs.Parts.{running_of}
use Rattle.raw_serial.specs.Within.{HasRunWithin}
use Rattle.raw_serial.proofs.Seating.{ends_at, processor_at}
use Rattle.raw_serial.proofs.machine.Machine.run_within.Goals as goal
use Rattle.raw_serial.proofs.machine.Machine.run_within.Goals.{After-index_mut-processor}

-- the processor is there
below : (c : After-index_mut-processor) → c.args.p.0 < proc_count c.self.inside.set.now.topo
below c = omega (arith, ap (λ (m : Running). proc_count m.set.topo) c.self.view_is, c.requires)

here : (c : After-index_mut-processor) → slice_get c.self.inside.processors.items c.args.p.0 ≡ Some c.index_mut-processor.result.now
here c =
    processor_at c.self.inside.set.now c.self.inside.ends.items c.self.inside.processors.items c.self.inside.wires c.self.invariant c.args.p.0 (below c)
    c.index_mut-processor.result.now c.index_mut-processor.ensures.value

pub run_processor-requires-clause-ends : goal.run_processor-requires-clause-ends
run_processor-requires-clause-ends c =
    ends_at c.self.inside.set.now c.self.inside.ends.items c.self.inside.processors.items c.self.inside.wires c.self.invariant c.args.p.0 (below (goal.at.run_processor-requires-clause-ends c).After-index_mut-processor)
    c.index-ends.result.now c.index-ends.ensures

pub run_processor-requires-clause-of : goal.run_processor-requires-clause-of
run_processor-requires-clause-of c = record {
  ends = c.self.inside.ends.items;
  processors = c.self.inside.processors.items;
  parts = c.self.invariant;
  here = here (goal.at.run_processor-requires-clause-of c).After-index_mut-processor;
}

pub invariant_of-self : goal.invariant_of-self
invariant_of-self c = (c.run_processor.ensures.run c.self.inside.ends.items c.self.inside.processors.items c.self.invariant (here (goal.at.invariant_of-self c).After-index_mut-processor)).0

pub returns-clause-run : goal.returns-clause-run
returns-clause-run c =
    subst (λ (m : Running). HasRunWithin m (running_of c.self.inside.set.now (slice_set c.self.inside.processors.items c.args.p.0 c.run_processor.new.processor) c.run_processor.new.wires) c.args.p.0 c.args.register c.run_processor.result) c.self.view_is
    (c.run_processor.ensures.run c.self.inside.ends.items c.self.inside.processors.items c.self.invariant (here (goal.at.returns-clause-run c).After-index_mut-processor)).1
