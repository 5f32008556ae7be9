use Rattle.std.proofs.Common.{◌≡◌, ◌<◌, Some, ap, subst, arith}
use Rattle.std.specs.Prelude.{slice_get, slice_set}
use Rattle.raw_grid.specs.Topology.{proc_count}
use Rattle.raw_serial.specs.Running.{Running}
use Rattle.raw_serial.specs.Parts.{running_of}
use Rattle.raw_serial.specs.Leading.{IsRunFor}
use Rattle.raw_serial.proofs.Seating.{ends_at, processor_at}
use Rattle.raw_serial.proofs.machine.Machine.take_turns_as.Goals as goal
use Rattle.raw_serial.proofs.machine.Machine.take_turns_as.Goals.{After-index_mut-processor}

-- the processor is there
below : (c : After-index_mut-processor) → c.args.p.0 < proc_count c.self.inside.set.now.topo
below c = omega (arith, ap (λ (m : Running). proc_count m.set.topo) c.self.view_is, c.requires.proc)

here : (c : After-index_mut-processor) → slice_get c.self.inside.processors.items c.args.p.0 ≡ Some c.index_mut-processor.result.now
here c =
    processor_at c.self.inside.set.now c.self.inside.ends.items c.self.inside.processors.items c.self.inside.wires c.self.invariant c.args.p.0 (below c)
    c.index_mut-processor.result.now c.index_mut-processor.ensures.value

pub take_turns-requires-clause-ends : goal.take_turns-requires-clause-ends
take_turns-requires-clause-ends c =
    ends_at c.self.inside.set.now c.self.inside.ends.items c.self.inside.processors.items c.self.inside.wires c.self.invariant c.args.p.0 (below (goal.at.take_turns-requires-clause-ends c).After-index_mut-processor)
    c.index-ends.result.now c.index-ends.ensures

pub take_turns-requires-clause-of : goal.take_turns-requires-clause-of
take_turns-requires-clause-of c = record {
  ends = c.self.inside.ends.items;
  processors = c.self.inside.processors.items;
  parts = c.self.invariant;
  here = here (goal.at.take_turns-requires-clause-of c).After-index_mut-processor;
}

pub invariant_of-self : goal.invariant_of-self
invariant_of-self c = (c.take_turns.ensures c.self.inside.ends.items c.self.inside.processors.items c.self.invariant (here (goal.at.invariant_of-self c).After-index_mut-processor)).0

pub returns : goal.returns
returns c =
    subst (λ (m : Running). IsRunFor m (running_of c.self.inside.set.now (slice_set c.self.inside.processors.items c.args.p.0 c.take_turns.new.processor) c.take_turns.new.wires) c.args.most c.take_turns.result.left) c.self.view_is
    (c.take_turns.ensures c.self.inside.ends.items c.self.inside.processors.items c.self.invariant (here (goal.at.returns c).After-index_mut-processor)).1
