use Rattle.std.proofs.Common.{◌≡◌, ℕ, List, Option, None, length, sym, ap, refl, rules, ◌∙◌}
use Rattle.raw_network.specs.Network.{Sent, fronts, appended}
use Rattle.raw_network.proofs.Wires.{length-taken}
use Rattle.raw_switch_isa.specs.Instruction.{SwitchInstruction}
use Rattle.raw_model.specs.Local.{Switch}
use Rattle.raw_model.specs.Machine.{row, switch_code, given_to}
use Rattle.raw_model.specs.SwitchTable.{next_instruction, effect_of, routed}
use Rattle.raw_processor.specs.Given.{wires_in, sent_at}
use Rattle.raw_processor.proofs.SwitchValues.{given_next}
use Rattle.raw_serial.specs.Needs.{AreNeedsOf, IsTaken, unmet_of}
use Rattle.raw_serial.proofs.Stepping.{put_there, put_room, counts_taken, is_taken}
use Rattle.raw_serial.proofs.Switching.{some_inside, sent_is}
use Rattle.raw_serial.proofs.Unmet.{switch_needs}
use Rattle.raw_prove.proofs.Ready.{ready_unmet}
use Rattle.raw_prove.proofs.turns.route_switch.Goals as goal
use Rattle.raw_prove.proofs.turns.route_switch.Goals.{After-switch_needs-needs, After-take_inputs-given}

-- what the next step needs
needs : (c : After-switch_needs-needs)
    → AreNeedsOf c.args.set.now c.args.p.0 (Switch c.args.unit.now.state) c.args.ends.now (wires_in c.switch_needs-needs.result.inputs c.args.ends.now.inputs) (wires_in c.switch_needs-needs.result.outputs c.args.ends.now.outputs)
needs c =
    switch_needs c.args.set.now c.args.p.0 c.args.unit.now.state c.args.ends.now c.deref-code.result.now _ _ c.requires.stands.ends_are (c.deref-code.ensures.value ∙ c.requires.unit.code)
    (c.switch_needs-needs.ensures.takes c.args.set.now.topo c.args.p.0 c.args.ends.now c.requires.stands.ends_are) (c.switch_needs-needs.ensures.sends c.args.set.now.topo c.args.p.0 c.args.ends.now c.requires.stands.ends_are)

needs_then : (c : After-take_inputs-given)
    → AreNeedsOf c.args.set.now c.args.p.0 (Switch c.args.unit.now.state) c.args.ends.now (wires_in c.switch_needs-needs.result.inputs c.args.ends.now.inputs) (wires_in c.switch_needs-needs.result.outputs c.args.ends.now.outputs)
needs_then c =
    switch_needs c.args.set.now c.args.p.0 c.args.unit.now.state c.args.ends.now c.deref-code.result.now _ _ c.requires.stands.ends_are (c.deref-code.ensures.value ∙ c.requires.unit.code)
    (c.switch_needs-needs.ensures.takes c.args.set.now.topo c.args.p.0 c.args.ends.now c.requires.stands.ends_are) (c.switch_needs-needs.ensures.sends c.args.set.now.topo c.args.p.0 c.args.ends.now c.requires.stands.ends_are)

-- the values that it takes, how they are given to it, and what it sends
abbrev values : After-take_inputs-given → List ℕ
values c = fronts (wires_in c.switch_needs-needs.result.inputs c.args.ends.now.inputs) c.args.wires.now

given_code : (c : After-take_inputs-given) → c.take_inputs-given.result ≡ given_to c.args.set.now.topo c.args.p.0 (next_instruction c.deref-code.result.now c.args.unit.now.state) (values c)
given_code c =
    c.take_inputs-given.ensures.given
    ∙ given_next c.args.set.now.topo c.args.p.0 c.args.ends.now (next_instruction c.deref-code.result.now c.args.unit.now.state) c.switch_needs-needs.result.inputs (values c) c.requires.stands.ends_are
    (some_inside c.deref-code.result.now c.args.unit.now.state.pc (search (rules, (c.deref-code.ensures.value ∙ c.requires.unit.code)))) c.switch_needs-needs.ensures.inputs

given : (c : After-take_inputs-given) → c.take_inputs-given.result ≡ given_to c.args.set.now.topo c.args.p.0 (next_instruction (switch_code c.args.set.now c.args.p.0) c.args.unit.now.state) (values c)
given c = given_code c ∙ ap (λ (code : List SwitchInstruction). given_to c.args.set.now.topo c.args.p.0 (next_instruction code c.args.unit.now.state) (values c)) (c.deref-code.ensures.value ∙ c.requires.unit.code)

sent : (c : After-take_inputs-given) → sent_at c.args.ends.now.outputs (routed c.instruction-step.result.now c.args.unit.now.state.regs c.take_inputs-given.result)
    ≡ (row c.args.set.now c.args.p.0 (Switch c.args.unit.now.state) (values c)).sent
sent c =
    sent_is c.args.set.now c.args.p.0 c.args.unit.now.state c.args.ends.now c.deref-code.result.now (values c) c.take_inputs-given.result _ c.requires.stands.ends_are (c.deref-code.ensures.value ∙ c.requires.unit.code) (given_code c)
    (sym (ap (λ (next : Option SwitchInstruction). (effect_of next (length c.deref-code.result.now) c.args.unit.now.state c.take_inputs-given.result).sent) c.instruction-step.ensures))

none : (c : After-take_inputs-given) → unmet_of c.args.set.now c.args.p.0 (Switch c.args.unit.now.state) c.args.wires.now ≡ None
none c = sym (c.in_default.ensures c.args.p.0 (Switch c.args.unit.now.state) (needs_then c))

took : (c : After-take_inputs-given) → IsTaken c.args.set.now c.args.p.0 (Switch c.args.unit.now.state) c.args.wires.now c.take_inputs-given.new.self (values c)
took c =
    is_taken c.args.set.now c.args.p.0 (Switch c.args.unit.now.state) c.args.wires.now c.args.ends.now _ _ _ _ (needs_then c) (none c) refl c.take_inputs-given.ensures.rest

pub unmet_at-requires-clause-needs : goal.unmet_at-requires-clause-needs
unmet_at-requires-clause-needs c = record { p = c.args.p.0; l = Switch c.args.unit.now.state; needs = needs (goal.at.unmet_at-requires-clause-needs c).After-switch_needs-needs }

pub returns-in-Some-clause-waits : goal.returns-in-Some-clause-waits
returns-in-Some-clause-waits c = λ _.
    let l = Switch c.args.unit.now.state in
    ready_unmet c.args.set.now c.args.p.0 l c.args.wires.now c.in-Some._wire.0 (sym (c.in-Some.ensures c.args.p.0 l (needs (goal.at.returns-in-Some-clause-waits c).After-switch_needs-needs)))

pub take_inputs-given-requires : goal.take_inputs-given-requires
take_inputs-given-requires c =
    let l = Switch c.args.unit.now.state in
    let needs = needs (goal.at.take_inputs-given-requires c).After-switch_needs-needs in
    counts_taken c.args.set.now c.args.p.0 l c.args.wires.now c.args.ends.now _ _ needs (sym (c.in_default.ensures c.args.p.0 l needs))

pub put_routes-requires-clause-there : goal.put_routes-requires-clause-there
put_routes-requires-clause-there c =
    let at = (goal.at.put_routes-requires-clause-there c).After-take_inputs-given in
    put_there c.args.set.now c.args.p.0 (Switch c.args.unit.now.state) (values at) (length c.take_inputs-given.new.self) _ (sent at)
    (ap length c.take_inputs-given.ensures.rest ∙ length-taken (wires_in c.switch_needs-needs.result.inputs c.args.ends.now.inputs) c.args.wires.now ∙ c.requires.stands.each)

pub put_routes-requires-clause-room : goal.put_routes-requires-clause-room
put_routes-requires-clause-room c =
    let at = (goal.at.put_routes-requires-clause-room c).After-take_inputs-given in
    put_room c.args.set.now c.args.p.0 (Switch c.args.unit.now.state) (values at) c.args.wires.now c.take_inputs-given.new.self _ (sent at) c.requires.stands.valid.small_depth (took at)

pub returns-clause-routes : goal.returns-clause-routes
returns-clause-routes c =
    let at = (goal.at.returns-clause-routes c).After-take_inputs-given in
    record {
      values = values at;
      left = c.take_inputs-given.new.self;
      took = took at;
      given_is = given at;
      later_is = c.put_routes.ensures ∙ ap (λ (ms : List Sent). appended ms c.take_inputs-given.new.self) (sent at);
    }
