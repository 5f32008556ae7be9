use Rattle.std.proofs.Common.{sym, subst}
use Rattle.raw_lines.specs.LabelsOf.{places_in}
use Rattle.raw_shell.specs.Seen.{sink_seen}
use Rattle.raw_command_line.specs.declared.arguments.ReadingCommand.TheVariants.{Debug}
use Rattle.raw_command_line.specs.declared.arguments.Command.TheVariants.{Reads}
use Rattle.raw_inputs.specs.Inputs.{IsScripted}
use Rattle.raw_owed.proofs.Fronts.{puts_due}
use Rattle.raw_commands.proofs.Scripts.{text, debug_owed, past_owed, script_due}
use Rattle.raw_commands.proofs.debugged.run_script.Goals as goal

pub returns-in-Ok-debug : goal.returns-in-Ok-debug
returns-in-Ok-debug g c =
    let input = c.args.input.items in
    let is = subst (IsScripted input) (sym c.scripted.view_is) c.in-Ok.ensures.says in
    let labels = places_in c.in-Ok-new.labels in
    let ok = c.in-Ok-debug.ensures.ok in
    record { output = text input _ is labels c.in-Ok-new.ensures; owed = debug_owed input _ is labels c.in-Ok-new.ensures ok.1; put = ok.2; counted = c.in-Ok-debug.ensures.count }

pub returns-in-Err-PastEnd : goal.returns-in-Err-PastEnd
returns-in-Err-PastEnd g c =
    let input = c.args.input.items in
    let is = subst (IsScripted input) (sym c.scripted.view_is) c.in-Ok.ensures.says in
    let labels = places_in c.in-Ok-new.labels in
    let cause = rw c.in-Err-PastEnd.field-0-is at c.in-Err-PastEnd.ensures.cause in
    record {
      output = text input _ is labels c.in-Ok-new.ensures;
      past = past_owed input _ is labels c.in-Ok-new.ensures cause.0 c.in-Err-PastEnd.line cause.2 cause.3;
      put = cause.4;
      counted = c.in-Err-PastEnd.ensures.count;
    }

pub returns-in-Err-Fault : goal.returns-in-Err-Fault
returns-in-Err-Fault g c =
    let input = c.args.input.items in
    let is = subst (IsScripted input) (sym c.scripted.view_is) c.in-Ok.ensures.says in
    let labels = places_in c.in-Ok-new.labels in
    let cause = rw c.in-Err-Fault.field-0-is at c.in-Err-Fault.ensures.cause in
    puts_due (Reads Debug) input (sink_seen g.K.Sink.sight c.args.out.now c.debug.new.out) (text input _ is labels c.in-Ok-new.ensures)
    (script_due input _ is labels c.in-Ok-new.ensures) cause.1 cause.2
