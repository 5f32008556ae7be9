use Rattle.std.proofs.Common.{refl}
use Rattle.raw_depths.specs.Text.{depths_text}
use Rattle.raw_shell.specs.Seen.{sink_seen}
use Rattle.raw_command_line.specs.declared.arguments.ReadingCommand.TheVariants.{Depths}
use Rattle.raw_command_line.specs.declared.arguments.Command.TheVariants.{Reads}
use Rattle.raw_commands.proofs.commands.run_depths.Goals as goal

pub returns : goal.returns
returns g c = λ input meaning.
    c.ended.ensures (Reads (Depths c.args.form)) input (depths_text c.args.set.now)
    (sink_seen g.K.Sink.sight c.args.out.now c.write_depths.new.out)
    (c.write_depths.ensures c.args.set.now c.in-Ok.ensures.found)
    (record { set = c.args.set.now; meaning = meaning; cycles = c.depths.ensures.cycles; written = refl; ended = refl })
