use Rattle.std.proofs.Common.{[], ap, subst, ◌∙◌}
use Rattle.std.specs.Prelude.{replicate, length}
use Rattle.raw_grid.specs.Wires.{wires_of}
use Rattle.raw_model.specs.Program.{ProgramSet, IsSet}
use Rattle.raw_serial.specs.Fresh.{IsFresh}
use Rattle.raw_serial.specs.Parts.{running_of, AreParts}
use Rattle.raw_serial.proofs.Freshly.{made}
use Rattle.raw_serial.proofs.machine.Machine.open.Goals as goal
use Rattle.raw_serial.proofs.machine.Machine.open.Goals.{In_ok-wires}

opened : (c : In_ok-wires)
    → AreParts c.args.set.now c.in_ok-ends.ends.items c.in_ok-processors.processors.items c.in_ok-wires.wires × IsFresh c.args.set.now (running_of c.args.set.now c.in_ok-processors.processors.items c.in_ok-wires.wires)
opened c =
    made c.args.set.now (subst IsSet c.set.view_is c.set.invariant) c.in_ok-ends.ends.items c.in_ok-processors.processors.items c.in_ok-wires.wires
    c.in_ok-ends.ensures
    c.in_ok-processors.ensures
    (c.in_ok-wires.ensures ∙ ap (λ n. replicate n []) (c.wires.ensures.value ∙ ap (λ (s : ProgramSet). length (wires_of s.topo)) c.set.view_is))

pub invariant_of-result : goal.invariant_of-result
invariant_of-result c = (opened (goal.at.invariant_of-result c).In_ok-wires).0

pub returns : goal.returns
returns c = (opened (goal.at.returns c).In_ok-wires).1
