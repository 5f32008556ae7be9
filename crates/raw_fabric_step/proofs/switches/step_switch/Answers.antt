use Rattle.std.proofs.Common.{Some, None, length, sym, ap, ◌∙◌, arith}
use Rattle.std.proofs.lemmas.Bool.{leb-false, or_parts}
use Rattle.raw_model.specs.Local.{Switch}
use Rattle.raw_model.specs.Machine.{is_ended}
use Rattle.raw_model.specs.SwitchTable.{next_instruction, effect_of}
use Rattle.raw_fabric_rule.specs.Plays.{values_of}
use Rattle.raw_fabric_step.specs.Units.{mine}
use Rattle.raw_fabric_step.specs.Fired.{IsPrepared}
use Rattle.raw_fabric_step.proofs.SwitchRows.{row_needs, row_gives, row_next, row_touches}
use Rattle.raw_fabric_step.proofs.Turning.{kept_more}
use Rattle.raw_fabric_step.proofs.Rows.{may_take, prepared_looked, prepared_held, prepared_more, stepped}
use Rattle.raw_fabric_step.proofs.switches.step_switch.Goals as goal

pub see_ends-requires-clause-asks : goal.see_ends-requires-clause-asks
see_ends-requires-clause-asks c =
    let r = c.requires in
    let set = c.args.words.now.key.set in
    let post = c.args.post.now in
    let l = c.args.state.now in
    let u = mine c.args.seat.now.me.0 post.index in
    let next = ap (λ code. next_instruction code l) (sym r.switch.code_is) ∙ c.instruction-step.ensures in
    c.switch_asks.ensures set post.p u.local
    (row_needs set r.stands.seated.post_is.valid post.p r.switch.switch u.local l r.due.local_is c.instruction-step.result.now next)
    (row_gives set r.stands.seated.post_is.valid post.p r.switch.switch u.local l r.due.local_is c.instruction-step.result.now next)

pub take_inputs-inputs-requires-clause-may : goal.take_inputs-inputs-requires-clause-may
take_inputs-inputs-requires-clause-may c =
    let r = c.requires in
    let a = c.args.words.now.key in
    let post = c.args.post.now in
    may_take a r.stands.seated.post_is.valid post.p (mine c.args.seat.now.me.0 post.index) (mine c.see_ends.new.seat.me.0 post.index) _ r.due c.in-Ok.ensures.saw

pub take_inputs-inputs-requires-clause-needs : goal.take_inputs-inputs-requires-clause-needs
take_inputs-inputs-requires-clause-needs c =
    let r = c.requires in
    let set = c.args.words.now.key.set in
    let post = c.args.post.now in
    let l = c.args.state.now in
    let z = mine c.see_ends.new.seat.me.0 post.index in
    let next = ap (λ code. next_instruction code l) (sym r.switch.code_is) ∙ c.instruction-step.ensures in
    row_needs set r.stands.seated.post_is.valid post.p r.switch.switch z.local l (c.see_ends.ensures.looked.local_same ∙ r.due.local_is) c.instruction-step.result.now next

pub commit_routes-after-requires-clause-step : goal.commit_routes-after-requires-clause-step
commit_routes-after-requires-clause-step c = record {
  switch = c.requires.switch.switch;
  local_is = c.take_inputs-inputs.ensures.held.local_same ∙ c.see_ends.ensures.looked.local_same ∙ c.requires.due.local_is;
  next = ap (λ code. next_instruction code c.args.state.now) (sym c.requires.switch.code_is) ∙ c.instruction-step.ensures;
}

pub switch_fire-requires-clause-count : goal.switch_fire-requires-clause-count
switch_fire-requires-clause-count c =
    let set = c.args.words.now.key.set in
    let below = leb-false set.limit c.args.state.now.count (or_parts (is_ended c.args.state.now.mark) _ c.requires.due.going).1 in
    let few = c.requires.stands.seated.post_is.valid.few_steps in
    omega (arith, below, few)

pub returns-in-Ok-clause-stepped : goal.returns-in-Ok-clause-stepped
returns-in-Ok-clause-stepped c =
    let r = c.requires in
    let is = r.stands.seated.post_is.valid in
    let a = c.args.words.now.key in
    let post = c.args.post.now in
    let u = mine c.args.seat.now.me.0 post.index in
    let z = mine c.see_ends.new.seat.me.0 post.index in
    let y = mine c.take_inputs-inputs.new.seat.me.0 post.index in
    let l = c.args.state.now in
    let ins = c.instruction-step.result.now in
    let next = ap (λ code. next_instruction code l) (sym r.switch.code_is) ∙ c.instruction-step.ensures in
    let taken = c.take_inputs-inputs.ensures in
    let given = c.take_inputs-inputs.result.given in
    let prepared : IsPrepared a post.p u y = prepared_more a post.p u z y (prepared_looked a post.p u z c.see_ends.ensures.looked) (prepared_held a post.p z y taken.held) in
    stepped a post c.commit_routes-after.result (values_of y) (Switch c.switch_fire.new.state) None c.args.seat.now c.take_inputs-inputs.new.seat c.commit_routes-after.new.seat
    (kept_more c.see_ends.ensures.kept taken.kept) prepared c.commit_routes-after.ensures.same c.commit_routes-after.ensures.fired
    (row_next a.set is post.p r.switch.switch u.local l r.due.local_is ins next (values_of y) given taken.inputs.handed
    ∙ (λ j. Switch (effect_of (Some ins) (length (sym r.switch.code_is j)) l given).next) ∙ ap Switch (sym c.switch_fire.ensures))
    (row_touches a.set is post.p r.switch.switch u.local l r.due.local_is ins next (values_of y)) tt
