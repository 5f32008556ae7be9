use Rattle.std.proofs.Common.{refl}
use Rattle.raw_steadiness.specs.Text.{steadiness_text}
use Rattle.raw_shell.specs.Seen.{sink_seen}
use Rattle.raw_command_line.specs.declared.arguments.ReadingCommand.TheVariants.{Steady}
use Rattle.raw_command_line.specs.declared.arguments.Command.TheVariants.{Reads}
use Rattle.raw_proof_commands.proofs.steadied.put_steadiness.Goals as goal

pub returns : goal.returns
returns g c = λ input meaning.
    let steadiness = c.in-Ok.steadiness in
    c.ended.ensures (Reads (Steady c.args.form)) input (steadiness_text steadiness)
    (sink_seen g.K.Sink.sight c.args.out.now c.write_steadiness.new.out) c.write_steadiness.ensures
    (record {
      set = c.args.set.now;
      meaning = meaning;
      steadiness = steadiness;
      says = c.in-Ok.ensures;
      written = refl;
      ended = c.ending_with.ensures;
    })
