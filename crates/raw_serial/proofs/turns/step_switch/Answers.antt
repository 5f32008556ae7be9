use Rattle.std.proofs.Common.{◌≡◌, ℕ, List, Option, Some, false, length, sym, ap, subst, refl, rules, ◌∙◌, arith}
use Rattle.std.proofs.lemmas.Bool.{leb-false, or_parts}
use Rattle.raw_network.specs.Network.{Sent, fronts, appended}
use Rattle.raw_network.proofs.Wires.{length-taken}
use Rattle.raw_switch_isa.specs.Instruction.{SwitchInstruction}
use Rattle.raw_grid.specs.declared.parts.ProcKind.TheVariants as proc
use Rattle.raw_model.specs.Local.{Switch}
use Rattle.raw_model.specs.Machine.{is_ended, row, given_to}
use Rattle.raw_model.specs.SwitchTable.{next_instruction, switch_row, effect_of, routed}
use Rattle.raw_switch.specs.Given.{IsGivenFor}
use Rattle.raw_processor.specs.Given.{wires_in, sent_at}
use Rattle.raw_processor.proofs.SwitchValues.{given_next, given_for}
use Rattle.raw_serial.specs.Needs.{AreNeedsOf}
use Rattle.raw_serial.proofs.Placed.{placed}
use Rattle.raw_serial.proofs.Stepping.{turn_unmet, turn_fired, put_there, put_room, counts_taken, is_taken}
use Rattle.raw_serial.proofs.Switching.{wired_next, some_inside, effect_with, sent_is}
use Rattle.raw_serial.proofs.Unmet.{switch_needs}
use Rattle.raw_serial.proofs.Events.{told_is}
use Rattle.raw_serial.proofs.turns.step_switch.Given.{Over}
use Rattle.raw_serial.proofs.turns.step_switch.Goals as goal
use Rattle.raw_serial.proofs.turns.step_switch.Goals.{After-switch_needs-needs, After-take_inputs-given}

-- what the next step needs
needs : (g : Over) (c : After-switch_needs-needs g)
    → AreNeedsOf c.args.set.now c.args.p.0 (Switch c.args.switch.now.state) c.args.ends.now (wires_in c.switch_needs-needs.result.inputs c.args.ends.now.inputs) (wires_in c.switch_needs-needs.result.outputs c.args.ends.now.outputs)
needs g c =
    switch_needs c.args.set.now c.args.p.0 c.args.switch.now.state c.args.ends.now c.deref-code.result.now _ _ c.requires.stands.on.ends_are (c.deref-code.ensures.value ∙ c.requires.stands.code)
    (c.switch_needs-needs.ensures.takes c.args.set.now.topo c.args.p.0 c.args.ends.now c.requires.stands.on.ends_are) (c.switch_needs-needs.ensures.sends c.args.set.now.topo c.args.p.0 c.args.ends.now c.requires.stands.on.ends_are)

-- the values that it takes, how they are given to it, and what it sends
abbrev values : (g : Over) → After-take_inputs-given g → List ℕ
values g c = fronts (wires_in c.switch_needs-needs.result.inputs c.args.ends.now.inputs) c.args.wires.now

given : (g : Over) (c : After-take_inputs-given g) → c.take_inputs-given.result ≡ given_to c.args.set.now.topo c.args.p.0 (next_instruction c.deref-code.result.now c.args.switch.now.state) (values g c)
given g c =
    c.take_inputs-given.ensures.given
    ∙ given_next c.args.set.now.topo c.args.p.0 c.args.ends.now (next_instruction c.deref-code.result.now c.args.switch.now.state) c.switch_needs-needs.result.inputs (values g c) c.requires.stands.on.ends_are
    (some_inside c.deref-code.result.now c.args.switch.now.state.pc (search (rules, (c.deref-code.ensures.value ∙ c.requires.stands.code)))) c.switch_needs-needs.ensures.inputs

sent : (g : Over) (c : After-take_inputs-given g) → sent_at c.args.ends.now.outputs (routed c.instruction-step.result.now c.args.switch.now.state.regs c.take_inputs-given.result)
    ≡ (row c.args.set.now c.args.p.0 (Switch c.args.switch.now.state) (values g c)).sent
sent g c =
    sent_is c.args.set.now c.args.p.0 c.args.switch.now.state c.args.ends.now c.deref-code.result.now (values g c) c.take_inputs-given.result _ c.requires.stands.on.ends_are (c.deref-code.ensures.value ∙ c.requires.stands.code) (given g c)
    (sym (ap (λ (next : Option SwitchInstruction). (effect_of next (length c.deref-code.result.now) c.args.switch.now.state c.take_inputs-given.result).sent) c.instruction-step.ensures))

pub unmet_at-requires-clause-needs : goal.unmet_at-requires-clause-needs
unmet_at-requires-clause-needs g c = record { p = c.args.p.0; l = Switch c.args.switch.now.state; needs = needs g c }

pub take_inputs-given-requires : goal.take_inputs-given-requires
take_inputs-given-requires g c =
    let l = Switch c.args.switch.now.state in
    let needs = needs g (goal.at.take_inputs-given-requires g c).After-switch_needs-needs in
    counts_taken c.args.set.now c.args.p.0 l c.args.wires.now c.args.ends.now _ _ needs (sym (c.in_default.ensures c.args.p.0 l needs))

pub switch_fire-requires-clause-count : goal.switch_fire-requires-clause-count
switch_fire-requires-clause-count g c =
    let below = leb-false c.args.set.now.limit c.args.switch.now.state.count (or_parts (is_ended c.args.switch.now.state.mark) _ c.requires.going).1 in
    let few = c.requires.stands.on.valid.few_steps in
    omega (arith, below, few)

pub switch_fire-requires-clause-given : goal.switch_fire-requires-clause-given
switch_fire-requires-clause-given g c =
    subst (λ (next : Option SwitchInstruction). IsGivenFor next c.take_inputs-given.result) c.instruction-step.ensures
    (subst (λ (given : List (Option ℕ)). IsGivenFor (next_instruction c.deref-code.result.now c.args.switch.now.state) given) (sym c.take_inputs-given.ensures.given)
    (given_for c.args.set.now.topo c.args.p.0 c.args.ends.now (next_instruction c.deref-code.result.now c.args.switch.now.state) c.switch_needs-needs.result.inputs
    (fronts (wires_in c.switch_needs-needs.result.inputs c.args.ends.now.inputs) c.args.wires.now) c.requires.stands.on.ends_are
    (λ ins e. wired_next c.args.set.now c.requires.stands.on.valid c.args.p.0 (placed c.args.set.now.topo c.args.p.0 proc.Switch c.requires.stands.there).0 c.args.switch.now.state ins (ap (λ code. next_instruction code c.args.switch.now.state) (sym (c.deref-code.ensures.value ∙ c.requires.stands.code)) ∙ e))
    c.switch_needs-needs.ensures.inputs))

pub put_routes-requires-clause-there : goal.put_routes-requires-clause-there
put_routes-requires-clause-there g c =
    let at = (goal.at.put_routes-requires-clause-there g c).After-take_inputs-given in
    put_there c.args.set.now c.args.p.0 (Switch c.args.switch.now.state) (values g at) (length c.take_inputs-given.new.self) _ (sent g at)
    (ap length c.take_inputs-given.ensures.rest ∙ length-taken (wires_in c.switch_needs-needs.result.inputs c.args.ends.now.inputs) c.args.wires.now ∙ c.requires.stands.on.each)

pub put_routes-requires-clause-room : goal.put_routes-requires-clause-room
put_routes-requires-clause-room g c =
    let l = Switch c.args.switch.now.state in
    let at = (goal.at.put_routes-requires-clause-room g c).After-take_inputs-given in
    let needs = needs g (goal.at.put_routes-requires-clause-room g c).After-switch_needs-needs in
    put_room c.args.set.now c.args.p.0 l (values g at) c.args.wires.now c.take_inputs-given.new.self _ (sent g at) c.requires.stands.on.valid.small_depth
    (is_taken c.args.set.now c.args.p.0 l c.args.wires.now c.args.ends.now _ _ _ _ needs (sym (c.in_default.ensures c.args.p.0 l needs)) refl c.take_inputs-given.ensures.rest)

pub returns-in-Some-clause-turn : goal.returns-in-Some-clause-turn
returns-in-Some-clause-turn g c =
    let l = Switch c.args.switch.now.state in
    record {
      whole = record {
        answer = turn_unmet c.args.set.now c.args.p.0 l c.args.wires.now false (Some c.in-Some.wire.0) c.requires.going refl
            (sym (c.in-Some.ensures c.args.p.0 l (needs g (goal.at.returns-in-Some-clause-turn g c).After-switch_needs-needs)));
        local = refl;
        wires = refl;
      };
      code = refl;
    }

pub returns-clause-turn : goal.returns-clause-turn
returns-clause-turn g c =
    let l = Switch c.args.switch.now.state in
    let at = (goal.at.returns-clause-turn g c).After-take_inputs-given in
    let needs = needs g (goal.at.returns-clause-turn g c).After-switch_needs-needs in
    record {
      whole = turn_fired c.args.set.now c.args.p.0 l c.args.wires.now false (Switch c.switch_fire.new.state) c.take_inputs-given.new.self c.put_routes.new.self (values g at)
          c.requires.going refl
          (is_taken c.args.set.now c.args.p.0 l c.args.wires.now c.args.ends.now _ _ _ _ needs (sym (c.in_default.ensures c.args.p.0 l needs)) refl c.take_inputs-given.ensures.rest)
          (ap Switch (c.switch_fire.ensures
          ∙ ap (λ (next : Option SwitchInstruction). (effect_of next (length c.deref-code.result.now) c.args.switch.now.state c.take_inputs-given.result).next) (sym c.instruction-step.ensures)
          ∙ ap (λ (g : List (Option ℕ)). (switch_row c.deref-code.result.now c.args.switch.now.state g).next) (given g at)
          ∙ ap (λ code. (effect_with c.args.set.now.topo c.args.p.0 code c.args.switch.now.state (values g at)).next) (c.deref-code.ensures.value ∙ c.requires.stands.code)))
          (c.put_routes.ensures ∙ ap (λ (ms : List Sent). appended ms c.take_inputs-given.new.self) (sent g at));
      code = refl;
    }

pub returns-clause-told : goal.returns-clause-told
returns-clause-told g c = λ fired.
    let at = goal.at.returns-clause-told g c in
    let set = c.args.set.now in
    let l = Switch c.args.switch.now.state in
    let needs = needs g at.After-switch_needs-needs in
    let took = is_taken set c.args.p.0 l c.args.wires.now c.args.ends.now _ _ _ _ needs (sym (c.in_default.ensures c.args.p.0 l needs)) refl c.take_inputs-given.ensures.rest in
    subst (g.T.Tells.has c.tell_switch.new.self)
    (told_is set c.args.p.0 l c.args.wires.now c.take_inputs-given.new.self (values g at.After-take_inputs-given) _ _ _ _ _ took needs.takes (sent g at.After-take_inputs-given) refl refl)
    c.tell_switch.ensures
