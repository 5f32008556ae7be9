use Rattle.std.proofs.Common.{refl}
use Rattle.raw_names.specs.Names.{names_text}
use Rattle.raw_shell.specs.Seen.{sink_seen}
use Rattle.raw_command_line.specs.declared.arguments.ReadingCommand.TheVariants.{Names}
use Rattle.raw_command_line.specs.declared.arguments.Command.TheVariants.{Reads}
use Rattle.raw_commands.proofs.commands.put_names.Goals as goal

pub returns : goal.returns
returns g c = λ input meaning.
    c.ended.ensures (Reads (Names c.args.form)) input (names_text c.args.set.now)
    (sink_seen g.K.Sink.sight c.args.out.now c.write_names.new.out) c.write_names.ensures
    (record { set = c.args.set.now; meaning = meaning; written = refl; ended = refl })
