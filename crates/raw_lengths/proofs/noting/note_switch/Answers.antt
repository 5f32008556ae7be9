use Rattle.std.proofs.Common.{◌≡◌, false, List, subst, sym, ap, refl, ◌∙◌}
use Rattle.raw_switch_isa.specs.Instruction.{SwitchInstruction}
use Rattle.raw_model.specs.Program.{ProgramSet}
use Rattle.raw_model.specs.Local.{Switch, SwitchLocal}
use Rattle.raw_model.specs.Machine.{is_stopped}
use Rattle.raw_model.specs.SwitchTable.{next_instruction}
use Rattle.raw_prove.proofs.Ready.{none_left}
use Rattle.raw_lengths.specs.Noting.{IsLookAt}
use Rattle.raw_lengths.proofs.Switching.{switch_noted}
use Rattle.raw_lengths.proofs.noting.note_switch.Goals as goal

pub returns-in_default-clause-look : goal.returns-in_default-clause-look
returns-in_default-clause-look c = record { nodes_stay = refl; local_stays = refl; wires_stay = c.route_switch.ensures.stays (none_left c.route_switch.result c.in_default.not-Some) }

pub returns-in-Ok-clause-look : goal.returns-in-Ok-clause-look
returns-in-Ok-clause-look c =
    let set : ProgramSet = c.args.set.now in
    let l : SwitchLocal = c.args.unit.now.state in
    let routed = c.in-Some.ensures.routes in
    let going : is_stopped set c.args.p.0 (Switch l) ≡ false = sym (ap (λ (g : ProgramSet). is_stopped g c.args.p.0 (Switch l)) c.set.view_is) ∙ sym c.switch_stopped.ensures ∙ c.if-switch_stopped.false in
    let look = subst (λ (code : List SwitchInstruction). IsLookAt c.args.table.now l (next_instruction code l)) c.switch_program-program.ensures (c.is_look.ensures c.if-not-is_look.false) in
    switch_noted set c.args.p.0 l c.args.table.now c.args.wires.now routed.left routed.values going routed.took
    c.in-Ok.term c.take_branch.new.table c.take_branch.new.state c.route_switch.new.wires c.switch_program-program.result.now c.switch_program-program.ensures routed.later_is look c.in-Ok.ensures.does
