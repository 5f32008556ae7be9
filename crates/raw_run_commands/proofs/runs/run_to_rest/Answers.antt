use Rattle.std.proofs.Common.{◌≡◌, sym, ap, subst, ◌∙◌}
use Rattle.raw_io.specs.Writing.{Writes}
use Rattle.raw_model.specs.Start.{start}
use Rattle.raw_model.specs.Rest.{IsRun, IsQuiet}
use Rattle.raw_model.specs.Outcomes.{outcome, ending_of}
use Rattle.raw_model.specs.Waits.{waits_for}
use Rattle.raw_serial.specs.Leading.{Leads}
use Rattle.raw_shell.specs.declared.ending.CommandEnding.TheVariants.{Rested}
use Rattle.raw_shell.specs.Seen.{sink_seen}
use Rattle.raw_inputs.specs.Inputs.{whole}
use Rattle.raw_owed.specs.Owed.{IsRunOutput, run_text}
use Rattle.raw_command_line.specs.declared.arguments.RunOutput.TheVariants.{State}
use Rattle.raw_command_line.specs.declared.arguments.ReadingCommand.TheVariants.{Run}
use Rattle.raw_command_line.specs.declared.arguments.Command.TheVariants.{Reads}
use Rattle.raw_run_commands.proofs.Outputs.{run_output}
use Rattle.raw_run_commands.proofs.runs.run_to_rest.Goals as goal

pub returns : goal.returns
returns g c = λ input meaning.
    let set = c.args.set.now in
    let form = c.args.options.form in
    let output = State c.args.output in
    let m = c.work-machine.result in
    let out = sink_seen g.K.Sink.sight c.args.out.now c.put_state.new.out in
    let same : m.set ≡ set = c.work-machine.ensures.set ∙ c.in-Ok.ensures.set in
    let some = c.law_bound.ensures.some_run set in
    let all = c.law_each_run.ensures set some.0 ((c.law_one_input.ensures (whole form) input).lawful set meaning) some.1 in
    let quiet : IsQuiet set m.state = subst (λ x. IsQuiet x m.state) same c.work-machine.ensures.quiet in
    let leads : Leads set (start set) m.state = subst (λ s. Leads set s m.state) c.in-Ok.ensures.state (subst (λ x. Leads x c.in-Ok.fresh.state m.state) c.in-Ok.ensures.set c.work-machine.ensures.led) in
    let rest : c.ending.result ≡ ending_of (outcome set m.state) =
    c.ending.ensures (waits_for m.set m.state) ∙ ap ending_of c.outcome-outcome.ensures ∙ ap (λ x. ending_of (outcome x m.state)) same in
    c.ended.ensures (Reads (Run c.args.options)) input (run_text output set some.0) out
    (subst (λ x. Writes out.old out.new (run_text output x some.0) c.put_state.result) same
    (c.put_state.ensures some.0 (subst (λ x. IsRun x some.0) (sym same) some.1)))
    (subst (IsRunOutput c.args.options.output form input (run_text output set some.0)) (ap Rested (sym rest))
    (run_output set m.state some.0 quiet leads some.1 all c.args.options.output output c.requires.output form input meaning))
