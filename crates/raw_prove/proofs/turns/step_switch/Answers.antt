use Rattle.std.proofs.Common.{◌≡◌, Bool, true, false, Ok, Err, length, subst}
use Rattle.std.specs.Prelude.{IfOk}
use Rattle.raw_model.specs.SwitchTable.{next_instruction}
use Rattle.raw_term.specs.declared.refusal.TermRefusal.TheVariants.{TooMany}
use Rattle.raw_term.specs.TermRows.{term_switch}
use Rattle.raw_term.specs.Switches.{IsControl}
use Rattle.raw_prove.proofs.Ready.{none_left}
use Rattle.raw_prove.proofs.Turning.{switch_waits, switch_fired, switch_hung, switch_over}
use Rattle.raw_prove.proofs.turns.step_switch.Goals as goal
use Rattle.raw_prove.proofs.turns.step_switch.Goals.{After-fire_switch}

pub returns-in_default-clause-turn : goal.returns-in_default-clause-turn
returns-in_default-clause-turn c =
    let none = none_left c.route_switch.result c.in_default.not-Some in
    switch_waits c.args.set.now c.args.p.0 c.args.unit.now.state c.args.table.now c.args.wires.now c.route_switch.new.wires (c.route_switch.ensures.waits none) (c.route_switch.ensures.stays none)

fired : (c : After-fire_switch) (goes : Bool) → c.fire_switch.result ≡ Ok goes
    → IsControl c.args.table.now c.args.unit.now.state (term_switch c.args.table.now (next_instruction c.switch_program.result.now c.args.unit.now.state) (length c.switch_program.result.now) c.args.unit.now.state c.in-Some.given)
    goes c.fire_switch.new.table c.fire_switch.new.state
fired c goes e =
    subst (λ r. IfOk r (λ goes. IsControl c.args.table.now c.args.unit.now.state (term_switch c.args.table.now (next_instruction c.switch_program.result.now c.args.unit.now.state) (length c.switch_program.result.now) c.args.unit.now.state c.in-Some.given) goes c.fire_switch.new.table c.fire_switch.new.state))
    e c.fire_switch.ensures.fired

pub returns-in-Ok-true-clause-turn : goal.returns-in-Ok-true-clause-turn
returns-in-Ok-true-clause-turn c =
    let routed = c.in-Some.ensures.routes in
    let yes : c.fire_switch.result ≡ Ok true = cc in
    switch_fired c.args.set.now c.args.p.0 c.args.unit.now.state c.args.table.now c.args.wires.now routed.left c.switch_program.result.now c.in-Some.given routed.values
    c.switch_program.ensures c.requires.going routed.took routed.given_is c.fire_switch.new.table c.fire_switch.new.state c.route_switch.new.wires routed.later_is (fired (goal.at.returns-in-Ok-true-clause-turn c).After-fire_switch true yes)

pub returns-in-Ok-false-clause-turn : goal.returns-in-Ok-false-clause-turn
returns-in-Ok-false-clause-turn c =
    let routed = c.in-Some.ensures.routes in
    let no : c.fire_switch.result ≡ Ok false = cc in
    switch_hung c.args.set.now c.args.p.0 c.args.unit.now.state c.args.table.now c.args.wires.now routed.left c.switch_program.result.now c.in-Some.given routed.values
    c.switch_program.ensures c.requires.going routed.took routed.given_is c.fire_switch.new.table c.fire_switch.new.state (fired (goal.at.returns-in-Ok-false-clause-turn c).After-fire_switch false no)

pub returns-in-Err-TooMany-clause-turn : goal.returns-in-Err-TooMany-clause-turn
returns-in-Err-TooMany-clause-turn c =
    let routed = c.in-Some.ensures.routes in
    let over : c.fire_switch.result ≡ Err TooMany = cc in
    switch_over c.args.set.now c.args.p.0 c.args.unit.now.state c.args.table.now c.args.wires.now routed.left c.switch_program.result.now c.in-Some.given routed.values
    c.switch_program.ensures c.requires.going routed.took routed.given_is (c.fire_switch.ensures.too_many over)
