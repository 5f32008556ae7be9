use Rattle.std.proofs.Common.{◌≡◌, ◌++◌, sym, ap, subst, ◌∙◌}
use Rattle.raw_io.specs.Writing.{Writes}
use Rattle.raw_model.specs.Program.{ProgramSet}
use Rattle.raw_model.specs.Rest.{IsRun, IsQuiet, IsLawful, end}
use Rattle.raw_model.specs.Outcomes.{outcome, ending_of}
use Rattle.raw_model.specs.Waits.{waits_for}
use Rattle.raw_set_text.specs.Listing.{listing}
use Rattle.raw_report.specs.History.{history_text}
use Rattle.raw_steps.specs.Taking.{numbers}
use Rattle.raw_shell.specs.Seen.{sink_seen}
use Rattle.raw_inputs.specs.Inputs.{whole}
use Rattle.raw_shell.specs.declared.ending.CommandEnding.TheVariants.{Rested}
use Rattle.raw_owed.specs.Owed.{run_text}
use Rattle.raw_command_line.specs.declared.arguments.ReadingCommand.TheVariants.{Run}
use Rattle.raw_command_line.specs.declared.arguments.Command.TheVariants.{Reads}
use Rattle.raw_run_commands.proofs.runs.run_history.Goals as goal

pub returns : goal.returns
returns g c = λ input meaning.
    let set = c.args.set.now in
    let sight = g.K.Sink.sight in
    let kept = c.in-Ok-work_kept.kept in
    let steps = numbers kept.steps.items in
    let is = c.in-Ok-work_kept.ensures.kept in
    let there : end set steps ≡ kept.machine.state = ap (λ (x : ProgramSet). end x steps) (sym is.set_is) ∙ is.run.there in
    let run : IsRun set steps = record {
      lawful = subst (λ (x : ProgramSet). IsLawful x steps) is.set_is is.run.lawful;
      quiet = subst (IsQuiet set) (sym there) c.in-Ok-work_kept.ensures.quiet;
    } in
    let all = c.law_each_run.ensures set steps ((c.law_one_input.ensures (whole c.args.options.form) input).lawful set meaning) run in
    let written : c.deref.result.now ++ history_text (numbers c.deref-2.result.now) ≡ listing set ++ history_text steps =
    ap (λ front. front ++ history_text (numbers c.deref-2.result.now)) (c.deref.ensures.value ∙ c.in-Ok.ensures)
    ∙ ap (λ list. listing set ++ history_text (numbers list)) c.deref-2.ensures.value in
    let out = sink_seen sight c.args.out.now c.put_history.new.out in
    let text = listing set ++ history_text steps in
    let rest : c.ending.result ≡ ending_of (outcome set (end set steps)) =
    c.ending.ensures (waits_for kept.machine.set kept.machine.state) ∙ ap ending_of c.outcome-outcome.ensures
    ∙ ap (λ x. ending_of (outcome x kept.machine.state)) c.in-Ok-work_kept.ensures.kept.set_is ∙ ap (λ s. ending_of (outcome set s)) (sym there) in
    c.ended.ensures (Reads (Run c.args.options)) input text out
    (subst (λ t. Writes out.old out.new t c.put_history.result) written c.put_history.ensures)
    (record { set = set; meaning = meaning; steps = steps; run = run; written = ap (λ o. run_text o set steps) (sym c.requires.output); ended = ap Rested rest; for_all = all })
