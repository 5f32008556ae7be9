use Rattle.std.proofs.Common.{◌≡◌, ◌<◌, Some, false, ap, subst, arith}
use Rattle.std.specs.Prelude.{slice_get}
use Rattle.raw_grid.specs.Topology.{proc_count}
use Rattle.raw_model.specs.Rest.{stopped}
use Rattle.raw_model.specs.Waits.{first_wait}
use Rattle.raw_processor.specs.Processor.{local_of}
use Rattle.raw_serial.specs.Running.{Running}
use Rattle.raw_serial.specs.Turns.{turn_by}
use Rattle.raw_serial.specs.Parts.{state_of}
use Rattle.raw_serial.proofs.Seating.{ends_at, processor_at, fit_here, local_here}
use Rattle.raw_serial.proofs.Turning.{turn_is}
use Rattle.raw_serial.proofs.machine.Machine.ask.Goals as goal
use Rattle.raw_serial.proofs.machine.Machine.ask.Goals.{After-index-2}

-- the processor is there
below : (c : After-index-2) → c.args.p.0 < proc_count c.self.inside.set.now.topo
below c = omega (arith, ap (λ (m : Running). proc_count m.set.topo) c.self.view_is, c.requires)

here : (c : After-index-2) → slice_get c.self.inside.processors.items c.args.p.0 ≡ Some c.index-2.result.now
here c =
    processor_at c.self.inside.set.now c.self.inside.ends.items c.self.inside.processors.items c.self.inside.wires c.self.invariant c.args.p.0 (below c)
    c.index-2.result.now c.index-2.ensures

pub ask_processor-requires-clause-ends : goal.ask_processor-requires-clause-ends
ask_processor-requires-clause-ends c = record {
  valid = c.self.invariant.valid;
  ends_are = ends_at c.self.inside.set.now c.self.inside.ends.items c.self.inside.processors.items c.self.inside.wires c.self.invariant c.args.p.0 (below c)
      c.index.result.now c.index.ensures;
  each = c.self.invariant.fits.wires;
}

pub ask_processor-requires-clause-kept : goal.ask_processor-requires-clause-kept
ask_processor-requires-clause-kept c = c.self.invariant.kept c.args.p.0 c.index-2.result.now (here c)

pub ask_processor-requires-clause-fits : goal.ask_processor-requires-clause-fits
ask_processor-requires-clause-fits c =
    fit_here c.self.inside.set.now c.self.inside.ends.items c.self.inside.processors.items c.self.inside.wires c.self.invariant c.args.p.0 c.index-2.result.now (here c)

pub returns : goal.returns
returns c =
    subst (λ (m : Running). c.ask_processor.result ≡ turn_by (stopped m.set m.state c.args.p.0) false (first_wait m.set m.state c.args.p.0)) c.self.view_is
    (turn_is c.self.inside.set.now (state_of c.self.inside.processors.items c.self.inside.wires) c.args.p.0 (local_of c.index-2.result.now)
    (local_here c.self.inside.set.now c.self.inside.ends.items c.self.inside.processors.items c.self.inside.wires c.self.invariant c.args.p.0 c.index-2.result.now (here (goal.at.returns c).After-index-2))
    false c.ask_processor.result c.ask_processor.ensures)
