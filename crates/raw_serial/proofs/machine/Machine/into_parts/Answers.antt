use Rattle.std.proofs.Common.{ap, sym, subst, ◌∙◌}
use Rattle.raw_model.specs.Program.{ProgramSet}
use Rattle.raw_serial.specs.declared.machine.Machine.TheInside.{Inside}
use Rattle.raw_serial.specs.declared.parts.Parts.{Parts}
use Rattle.raw_serial.specs.Running.{Running}
use Rattle.raw_serial.specs.Parts.{AreParts}
use Rattle.raw_serial.specs.Taken.{IsWhole}
use Rattle.raw_serial.proofs.Reached.{parts_whole}
use Rattle.raw_serial.proofs.machine.Machine.into_parts.Goals as goal

pub returns-clause-whole : goal.returns-clause-whole
returns-clause-whole c =
    let parts : Parts = record {
      ends = c.self-inside.inside.0.1.0;
      processors = c.self-inside.inside.0.1.1.0;
      wires = c.self-inside.inside.0.1.1.1.0.queues;
    } in
    subst (λ (g : ProgramSet). IsWhole g parts) (ap (λ (m : Inside). m.set.now) c.self-inside.view_is ∙ ap (λ (m : Running). m.set) c.self.view_is)
    (parts_whole c.self-inside.inside.0.0.now parts
    (subst (λ (m : Inside). AreParts m.set.now m.ends.items m.processors.items m.wires) (sym c.self-inside.view_is) c.self.invariant))
