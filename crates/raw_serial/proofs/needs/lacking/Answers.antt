use Rattle.std.proofs.Common.{ℕ, List, length, refl, sym, ap, ◌∙◌}
use Rattle.std.specs.List.{find}
use Rattle.raw_network.specs.Network.{has_values}
use Rattle.raw_network.specs.Waits.{lacks_values, lacks_room, either_first}
use Rattle.raw_model.specs.Waits.{inputs_at}
use Rattle.raw_processor.specs.Given.{taken_by, sent_by}
use Rattle.raw_serial.proofs.Single.{lacks_one, some_lacks}
use Rattle.raw_serial.proofs.Stepping.{input_there, inputs_are, unmet_is, listed}
use Rattle.raw_serial.proofs.needs.lacking.Goals as goal

pub first_empty-requires : goal.first_empty-requires
first_empty-requires c =
    input_there c.args.set.now.topo c.requires.needs.p c.args.ends.now c.requires.needs.needs.ends (length c.args.wires.now) c.requires.wires

pub returns-in-Some : goal.returns-in-Some
returns-in-Some c = λ p l needs.
    lacks_one c.args.set.now p l c.args.wires.now c.in-Some.wire (sym needs.takes ∙ c.in-Some.ensures)
    (ap (λ ws. has_values ws c.args.wires.now) (sym c.in-Some.ensures) ∙ c.requires.lacks)

pub returns-in-Some-first_empty : goal.returns-in-Some-first_empty
returns-in-Some-first_empty c = λ p l needs.
    let takes = c.as_slice.ensures.value ∙ c.listed-takes.ensures in
    ap (λ o. either_first o (find (lacks_room c.args.set.now.depth (sent_by c.args.needs) c.args.wires.now) (listed c.args.ends.now.outputs)))
    (c.in-Some-first_empty.ensures ∙ ap (λ (ws : List ℕ). find (lacks_values ws c.args.wires.now) (listed c.args.ends.now.inputs)) takes)
    ∙ unmet_is c.args.set.now p l c.args.ends.now (taken_by c.args.needs) (sent_by c.args.needs) c.args.set.now.depth c.args.wires.now needs refl

pub returns-in-None : goal.returns-in-None
returns-in-None c = λ p l needs.
    let takes = c.as_slice.ensures.value ∙ c.listed-takes.ensures in
    absurd (some_lacks c.args.set.now p l c.args.wires.now (ap (λ (ws : List ℕ). has_values ws c.args.wires.now) (sym needs.takes) ∙ c.requires.lacks)
    (ap (λ ws. find (lacks_values ws c.args.wires.now) (inputs_at c.args.set.now.topo p)) (sym needs.takes)
    ∙ ap (find (lacks_values (taken_by c.args.needs) c.args.wires.now)) (sym (inputs_are c.args.set.now.topo p c.args.ends.now needs.ends))
    ∙ sym (c.in-None.ensures ∙ ap (λ (ws : List ℕ). find (lacks_values ws c.args.wires.now) (listed c.args.ends.now.inputs)) takes)))
