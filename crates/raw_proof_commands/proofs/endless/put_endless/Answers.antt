use Rattle.std.proofs.Common.{Option, Some, None, IfSome, refl, ◌∙◌, subst}
use Rattle.raw_stream_text.specs.Streams.{FedStream}
use Rattle.raw_stream_choice.specs.Endless.{IsEndlessChoice}
use Rattle.raw_shell.specs.declared.ending.CommandEnding.TheVariants.{Unproved}
use Rattle.raw_shell.specs.Seen.{sink_seen}
use Rattle.raw_verdict.specs.LiveText.{no_cut_line}
use Rattle.raw_command_line.specs.declared.arguments.FlowSet.TheVariants.{Endless}
use Rattle.raw_command_line.specs.declared.arguments.ReadingCommand.TheVariants.{Flow}
use Rattle.raw_command_line.specs.declared.arguments.Command.TheVariants.{Reads}
use Rattle.raw_proof_commands.proofs.endless.put_endless.Goals as goal

pub returns-in-Ok-None : goal.returns-in-Ok-None
returns-in-Ok-None g c =
    c.ended.ensures (Reads (Flow Endless)) c.args.input.items no_cut_line (sink_seen g.K.Sink.sight c.args.out.now c.write_no_cut.new.out) c.write_no_cut.ensures
    (record { fed = c.in-Ok.read; meaning = c.in-Ok.ensures.meaning; found = None; set = tt; written = refl; ended = refl })

pub returns-in-Ok-list_set : goal.returns-in-Ok-list_set
returns-in-Ok-list_set g c =
    let choice : IsEndlessChoice c.read.inside.stream c.in-Ok-Some.set =
    subst (λ o. IfSome o (IsEndlessChoice c.read.inside.stream)) c.in-Ok-Some.field-0-is c.in-Ok-Some.ensures in
    c.put_output.ensures (Reads (Flow Endless)) c.args.input.items
    (record {
      fed = c.in-Ok.read;
      meaning = c.in-Ok.ensures.meaning;
      found = Some c.in-Ok-Some.set;
      set = subst (λ (fed : FedStream). IsEndlessChoice fed.stream c.in-Ok-Some.set) c.read.view_is choice;
      written = c.deref.ensures.value ∙ c.in-Ok-list_set.ensures;
      ended = refl;
    })
