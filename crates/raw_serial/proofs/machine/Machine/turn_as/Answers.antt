use Rattle.std.proofs.Common.{◌≡◌, ◌<◌, Some, ap, subst, ◌∙◌, arith}
use Rattle.std.specs.Prelude.{slice_get, slice_set}
use Rattle.raw_grid.specs.Topology.{proc_count}
use Rattle.raw_serial.specs.Running.{Running, IsTurnOf}
use Rattle.raw_serial.specs.Parts.{running_of}
use Rattle.raw_serial.specs.Told.{told_of}
use Rattle.raw_serial.proofs.Events.{told_there}
use Rattle.raw_serial.proofs.Seating.{ends_at, processor_at, fit_here, turned, parts_then}
use Rattle.raw_serial.proofs.machine.Machine.turn_as.Given.{Over}
use Rattle.raw_serial.proofs.machine.Machine.turn_as.Goals as goal
use Rattle.raw_serial.proofs.machine.Machine.turn_as.Goals.{After-index_mut-processor}

-- the processor is there
below : (g : Over) (c : After-index_mut-processor g) → c.args.p.0 < proc_count c.self.inside.set.now.topo
below g c = omega (arith, ap (λ (m : Running). proc_count m.set.topo) c.self.view_is, c.requires.proc)

here : (g : Over) (c : After-index_mut-processor g) → slice_get c.self.inside.processors.items c.args.p.0 ≡ Some c.index_mut-processor.result.now
here g c =
    processor_at c.self.inside.set.now c.self.inside.ends.items c.self.inside.processors.items c.self.inside.wires c.self.invariant c.args.p.0 (below g c)
    c.index_mut-processor.result.now c.index_mut-processor.ensures.value

pub turn_processor-requires-clause-ends : goal.turn_processor-requires-clause-ends
turn_processor-requires-clause-ends g c = record {
  valid = c.self.invariant.valid;
  ends_are = ends_at c.self.inside.set.now c.self.inside.ends.items c.self.inside.processors.items c.self.inside.wires c.self.invariant c.args.p.0 (below g (goal.at.turn_processor-requires-clause-ends g c).After-index_mut-processor)
      c.index-ends.result.now c.index-ends.ensures;
  each = c.self.invariant.fits.wires;
}

pub turn_processor-requires-clause-kept : goal.turn_processor-requires-clause-kept
turn_processor-requires-clause-kept g c = c.self.invariant.kept c.args.p.0 c.index_mut-processor.result.now (here g (goal.at.turn_processor-requires-clause-kept g c).After-index_mut-processor)

pub turn_processor-requires-clause-few : goal.turn_processor-requires-clause-few
turn_processor-requires-clause-few g c = c.self.invariant.few c.args.p.0 c.index_mut-processor.result.now (here g (goal.at.turn_processor-requires-clause-few g c).After-index_mut-processor)

pub turn_processor-requires-clause-fits : goal.turn_processor-requires-clause-fits
turn_processor-requires-clause-fits g c =
    fit_here c.self.inside.set.now c.self.inside.ends.items c.self.inside.processors.items c.self.inside.wires c.self.invariant c.args.p.0
    c.index_mut-processor.result.now (here g (goal.at.turn_processor-requires-clause-fits g c).After-index_mut-processor)

pub invariant_of-self : goal.invariant_of-self
invariant_of-self g c =
    parts_then c.self.inside.set.now c.self.inside.ends.items c.self.inside.processors.items c.self.inside.wires c.turn_processor.new.wires c.self.invariant
    c.args.p.0 c.index_mut-processor.result.now c.turn_processor.new.processor (here g (goal.at.invariant_of-self g c).After-index_mut-processor) c.turn_processor.result c.turn_processor.ensures.turn

pub returns-clause-turn : goal.returns-clause-turn
returns-clause-turn g c =
    subst (λ (m : Running). IsTurnOf m (running_of c.self.inside.set.now (slice_set c.self.inside.processors.items c.args.p.0 c.turn_processor.new.processor) c.turn_processor.new.wires) c.args.p.0 c.turn_processor.result) c.self.view_is
    (turned c.self.inside.set.now c.self.inside.ends.items c.self.inside.processors.items c.self.inside.wires c.turn_processor.new.wires c.self.invariant
    c.args.p.0 c.index_mut-processor.result.now c.turn_processor.new.processor (here g (goal.at.returns-clause-turn g c).After-index_mut-processor) c.turn_processor.result c.turn_processor.ensures.turn)

pub returns-clause-told : goal.returns-clause-told
returns-clause-told g c = λ fired.
    let set = c.self.inside.set.now in
    let processors = c.self.inside.processors.items in
    let wires = c.self.inside.wires in
    let p = c.args.p.0 in
    let x = c.index_mut-processor.result.now in
    let y = c.turn_processor.new.processor in
    let there = here g (goal.at.returns-clause-told g c).After-index_mut-processor in
    let later = running_of set (slice_set processors p y) c.turn_processor.new.wires in
    subst (g.T.Tells.has c.turn_processor.new.teller)
    (told_there set processors wires c.turn_processor.new.wires p c.turn_processor.result x y there
    (fit_here set c.self.inside.ends.items processors wires c.self.invariant p x there) c.turn_processor.ensures.turn
    ∙ ap (λ (m : Running). told_of m later p) c.self.view_is)
    (c.turn_processor.ensures.told fired)
