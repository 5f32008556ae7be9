use Rattle.std.proofs.Common.{◌++◌, [], Some, refl, sym, ap, subst, ◌∙◌}
use Rattle.std.specs.Option.{option_map}
use Rattle.std.specs.List.{cons_option}
use Rattle.std.specs.Result.{OnOk}
use Rattle.raw_asm.specs.Tokens.{tokens_of}
use Rattle.raw_plan_text.specs.Forms.{grid_entry, send_entry}
use Rattle.raw_plan_text.specs.Forms.Entry.{Send}
use Rattle.raw_plan_text.specs.Faults.{form_fault}
use Rattle.raw_plan_text.specs.Answers.{Answers, PlanStands}
use Rattle.raw_plan_text.proofs.Steps.{grid_line, send_line, other_line, later_line}
use Rattle.raw_plan_text.proofs.reader.read_later.Goals as goal

pub returns-then-is_grid-clause-fault : goal.returns-then-is_grid-clause-fault
returns-then-is_grid-clause-fault c entries stands =
    let tokens = tokens_of c.args.line.now in
    let entry = grid_line tokens (sym (c.if-is_grid.ensures {u = tt})) ∙ ap grid_entry (sym c.behind-operands.ensures) in
    rw c.refusal.ensures (refl, later_line entries tokens stands.0 c.requires ∙ ap (form_fault entries) entry ∙ c.second_grid.ensures entries stands.0)

pub returns-then-not-is_send-clause-fault : goal.returns-then-not-is_send-clause-fault
returns-then-not-is_send-clause-fault c entries stands =
    let tokens = tokens_of c.args.line.now in
    let entry = other_line tokens (sym (c.if-is_grid.ensures {u = tt})) (sym (c.if-not-is_send.ensures {u = tt})) in
    rw c.refusal-then-not-is_send.ensures (refl, later_line entries tokens stands.0 c.requires ∙ ap (form_fault entries) entry)

pub returns-in-Some-clause-fault : goal.returns-in-Some-clause-fault
returns-in-Some-clause-fault c entries stands =
    let tokens = tokens_of c.args.line.now in
    let entry = send_line tokens (sym (c.if-is_grid.ensures {u = tt})) (sym (c.if-not-is_send.ensures {u = tt})) ∙ ap send_entry (sym c.behind-operands.ensures)
    ∙ c.in_ok-send.ensures {u = tt} ∙ ap (option_map (λ send. Send send)) c.in-Some.is in
    subst (Answers c.add_send.result c.args.number) (sym (later_line entries tokens stands.0 c.requires ∙ ap (form_fault entries) entry)) (c.add_send.ensures.fault entries stands)

pub returns-in-Some-clause-stands : goal.returns-in-Some-clause-stands
returns-in-Some-clause-stands c entries stands =
    let tokens = tokens_of c.args.line.now in
    let entry = send_line tokens (sym (c.if-is_grid.ensures {u = tt})) (sym (c.if-not-is_send.ensures {u = tt})) ∙ ap send_entry (sym c.behind-operands.ensures)
    ∙ c.in_ok-send.ensures {u = tt} ∙ ap (option_map (λ send. Send send)) c.in-Some.is in
    subst (λ o. OnOk c.add_send.result (PlanStands (Some c.add_send.new.plan) (entries ++ cons_option o []))) (sym entry) (c.add_send.ensures.stands entries stands)

pub returns-in-None-clause-fault : goal.returns-in-None-clause-fault
returns-in-None-clause-fault c entries stands =
    let tokens = tokens_of c.args.line.now in
    let entry = send_line tokens (sym (c.if-is_grid.ensures {u = tt})) (sym (c.if-not-is_send.ensures {u = tt})) ∙ ap send_entry (sym c.behind-operands.ensures)
    ∙ c.in_ok-send.ensures {u = tt} ∙ ap (option_map (λ send. Send send)) c.in-None.is in
    rw c.refusal-in-None.ensures (refl, later_line entries tokens stands.0 c.requires ∙ ap (form_fault entries) entry)
