use Rattle.std.proofs.Common.{◌≡◌, ℕ, List, refl, sym, ap, ◌∙◌, subst}
use Rattle.std.specs.Prelude.{◌↔◌}
use Rattle.raw_io.specs.Writing.{Writes}
use Rattle.raw_model.specs.Program.{ProgramSet}
use Rattle.raw_model.specs.Start.{MachineState, start}
use Rattle.raw_model.specs.Rest.{IsLawfulFrom}
use Rattle.raw_steps.specs.declared.checking.CheckAnswer.TheVariants.{Lawful}
use Rattle.raw_steps.specs.Taking.{numbers}
use Rattle.raw_steps.specs.Checking.{IsAnswer}
use Rattle.raw_owed.specs.Checked.{check_line}
use Rattle.raw_shell.specs.Seen.{sink_seen}
use Rattle.raw_command_line.specs.declared.arguments.ReadingCommand.TheVariants.{Check}
use Rattle.raw_command_line.specs.declared.arguments.Command.TheVariants.{Reads}
use Rattle.raw_run_commands.proofs.checked.check_history.Goals as goal

pub returns : goal.returns
returns g c =
    let set = c.in-Ok.marked.set in
    let answer = c.check_run-answer.result in
    let m = c.in-Ok-open.machine in
    let said = c.in-Ok.ensures.says in
    let steps : List ℕ = said.0.steps in
    let fresh = c.in-Ok-open.ensures in
    let steps_are : numbers c.deref.result.now ≡ steps = ap numbers c.deref.ensures.value ∙ sym said.1 in
    let state_is : m.state ≡ start set = fresh.state in
    let exactly = subst (λ (q : ProgramSet × MachineState × List ℕ). (answer ≡ Lawful) ↔ IsLawfulFrom q.0 q.1 q.2) (λ i. (fresh.set i, state_is i, steps_are i)) c.check_run-answer.ensures.lawful in
    let says = subst (λ (q : ProgramSet × MachineState × List ℕ). IsAnswer q.0 q.1 q.2 answer) (λ i. (fresh.set i, state_is i, steps_are i)) c.check_run-answer.ensures.answer in
    let text : c.as_bytes.result.now ≡ check_line steps answer =
    c.as_bytes.ensures ∙ c.answer_line-line.ensures ∙ ap (λ l. check_line l answer) (ap numbers c.deref-2.ensures.value ∙ sym said.1) in
    let out = sink_seen g.K.Sink.sight c.args.out.now c.put_all.new.sink in
    let put = c.put_all.ensures in
    let writes : Writes out.old out.new c.as_bytes.result.now c.put_all.result = record { ok = put.ok; front = put.front; fault = put.fault; count = put.count } in
    c.ended.ensures (Reads Check) c.args.input.items (check_line steps answer) out (subst (λ t. Writes out.old out.new t c.put_all.result) text writes)
    (record { set = set; meaning = said.0; answer = answer; exactly = exactly; says = says; written = refl; ended = c.ending_with.ensures })
