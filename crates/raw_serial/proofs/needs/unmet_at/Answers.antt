use Rattle.std.proofs.Common.{length, Some, None, ap, refl, ◌∙◌}
use Rattle.raw_model.specs.Program.{ProgramSet}
use Rattle.raw_serial.proofs.Stepping.{input_there, output_there}
use Rattle.raw_serial.proofs.ByEnds.{empty_first, full_next}
use Rattle.raw_serial.proofs.needs.unmet_at.Goals as goal

pub first_failing-requires : goal.first_failing-requires
first_failing-requires c =
    input_there c.args.set.now.topo c.requires.needs.p c.args.ends.now c.requires.needs.needs.ends (length c.args.wires.now) c.requires.wires

pub first_failing-requires-2 : goal.first_failing-requires-2
first_failing-requires-2 c =
    output_there c.args.set.now.topo c.requires.needs.p c.args.ends.now c.requires.needs.needs.ends (length c.args.wires.now) c.requires.wires

pub returns-in-Some : goal.returns-in-Some
returns-in-Some c = λ p l needs.
    empty_first c.args.set.now p l c.args.ends.now c.args.needs.inputs c.args.needs.outputs c.args.set.now.depth c.args.wires.now needs refl c.in-Some.wire c.in-Some.ensures

pub returns-in-Some-first_failing : goal.returns-in-Some-first_failing
returns-in-Some-first_failing c = λ p l needs.
    full_next c.args.set.now p l c.args.ends.now c.args.needs.inputs c.args.needs.outputs c.from.result c.args.wires.now needs
    (c.from.ensures ∙ ap (λ (s : ProgramSet). s.depth) c.set.view_is) (Some c.in-Some-first_failing.wire) c.in_default.ensures c.in-Some-first_failing.ensures

pub returns-in-None : goal.returns-in-None
returns-in-None c = λ p l needs.
    full_next c.args.set.now p l c.args.ends.now c.args.needs.inputs c.args.needs.outputs c.from.result c.args.wires.now needs
    (c.from.ensures ∙ ap (λ (s : ProgramSet). s.depth) c.set.view_is) None c.in_default.ensures c.in-None.ensures
