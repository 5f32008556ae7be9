use Rattle.std.proofs.Common.{◌≡◌, ℕ, List, Some, map, ap, ◌∙◌, subst}
use Rattle.std.specs.Prelude.{slice_index}
use Rattle.raw_io.specs.Writing.{Writes}
use Rattle.raw_shell.specs.Seen.{sink_seen}
use Rattle.raw_owed.specs.LiveOutputs.{live_text}
use Rattle.raw_verdict.specs.LiveText.{lacks_text, proved_rows_line}
use Rattle.raw_command_line.specs.declared.arguments.ReadingCommand.TheVariants.{ProveLive}
use Rattle.raw_command_line.specs.declared.arguments.Command.TheVariants.{Reads}
use Rattle.raw_proof_commands.proofs.live_proved.put_extent.Goals as goal

pub returns : goal.returns
returns g c = λ input owed.
    let extent = c.args.extent.now in
    let order : List ℕ = c.args.order.now in
    let told : c.deref-2.result.now ≡ lacks_text (map (slice_index extent.lacks.items) order) =
    c.deref-2.ensures.value ∙ c.in-Ok.ensures ∙ ap (λ (lacks : List ℕ). lacks_text (map (slice_index lacks) order)) c.deref.ensures.value in
    c.ended.ensures (Reads ProveLive) input (live_text order (Some extent)) (sink_seen g.K.Sink.sight c.args.out.now c.write_proved_rows-put.new.out)
    (subst (λ (bytes : List ℕ). Writes (g.K.Sink.sight c.args.out.now) (g.K.Sink.sight c.write_proved_rows-put.new.out) (proved_rows_line extent.least extent.most bytes) c.write_proved_rows-put.result) told
    c.write_proved_rows-put.ensures)
    owed
