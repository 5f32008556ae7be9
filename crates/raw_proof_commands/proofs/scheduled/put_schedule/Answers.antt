use Rattle.std.proofs.Common.{refl, ◌∙◌}
use Rattle.raw_command_line.specs.declared.arguments.FlowSet.TheVariants.{Scheduled}
use Rattle.raw_command_line.specs.declared.arguments.ReadingCommand.TheVariants.{Flow}
use Rattle.raw_command_line.specs.declared.arguments.Command.TheVariants.{Reads}
use Rattle.raw_proof_commands.proofs.scheduled.put_schedule.Goals as goal

pub returns-in-Ok-list_set : goal.returns-in-Ok-list_set
returns-in-Ok-list_set g c =
    c.put_output.ensures (Reads (Flow Scheduled)) c.args.input.items
    (record {
      set = c.in-Ok.set;
      schedule = c.in-Ok.ensures.made;
      written = c.deref.ensures.value ∙ c.in-Ok-list_set.ensures;
      ended = refl;
    })
