use Rattle.std.proofs.Common.{[], ◌∷◌, sym, ap, ◌∙◌}
use Rattle.std.specs.Option.{option_to_list}
use Rattle.raw_network.specs.Network.{has_values, has_room}
use Rattle.raw_network.proofs.Waits.{unmet}
use Rattle.raw_model.specs.Program.{ProgramSet}
use Rattle.raw_processor.specs.Given.{taken_by, sent_by}
use Rattle.raw_serial.proofs.Within.{takes_within, sends_within}
use Rattle.raw_serial.proofs.Stepping.{all_there, unmet_is, listed}
use Rattle.raw_serial.proofs.Single.{full_one}
use Rattle.raw_serial.proofs.needs.unmet_by_tile.Goals as goal

pub has_pair-requires : goal.has_pair-requires
has_pair-requires c =
    all_there _ _ _ _ c.requires.wires c.requires.needs.needs.takes (takes_within c.args.set.now c.requires.needs.p c.requires.needs.l)

pub has_place-requires : goal.has_place-requires
has_place-requires c =
    all_there _ _ _ _ c.requires.wires c.requires.needs.needs.sends (sends_within c.args.set.now c.requires.needs.p c.requires.needs.l)

pub returns-then-has_place : goal.returns-then-has_place
returns-then-has_place c = λ p l needs.
    sym (sym (unmet_is c.args.set.now p l c.args.ends.now (taken_by c.args.needs) (sent_by c.args.needs) c.from-depth.result c.args.wires.now needs
    (c.from-depth.ensures ∙ ap (λ (s : ProgramSet). s.depth) c.set.view_is))
    ∙ unmet c.from-depth.result (listed c.args.ends.now.inputs) (listed c.args.ends.now.outputs) (taken_by c.args.needs) (sent_by c.args.needs) c.args.wires.now
    (sym c.has_pair.ensures ∙ c.if-not-has_pair.false) (sym c.has_place.ensures ∙ c.if-has_place.true))

pub returns-in-Some : goal.returns-in-Some
returns-in-Some c = λ p l needs.
    let deep = c.from-depth.ensures ∙ ap (λ (s : ProgramSet). s.depth) c.set.view_is in
    full_one c.args.set.now p l c.args.wires.now c.in-Some.wire
    (ap (λ ws. has_values ws c.args.wires.now) (sym needs.takes) ∙ sym c.has_pair.ensures ∙ c.if-not-has_pair.false)
    (sym needs.sends ∙ ap option_to_list c.in-Some.is)
    (ap (λ d. has_room d (c.in-Some.wire ∷ []) c.args.wires.now) (sym deep)
    ∙ ap (λ o. has_room c.from-depth.result (option_to_list o) c.args.wires.now) (sym c.in-Some.is)
    ∙ sym c.has_place.ensures ∙ c.if-has_place.false)
