use Rattle.std.proofs.Common.{ℕ, List, None, refl, sym, subst}
use Rattle.raw_model.specs.Program.{ProgramSet}
use Rattle.raw_stream.specs.Streams.{Stream}
use Rattle.raw_stream_text.specs.Streams.{FedStream}
use Rattle.raw_shell.specs.declared.ending.CommandEnding.TheVariants.{Done, Unproved}
use Rattle.raw_shell.specs.Seen.{sink_seen}
use Rattle.raw_row_claim_text.specs.Seats.{IsSeatedAs}
use Rattle.raw_owed.specs.LiveOutputs.{IsRowsProvedLive, IsLiveOutputBy}
use Rattle.raw_verdict.specs.LiveText.{no_cut_line}
use Rattle.raw_command_line.specs.declared.arguments.ReadingCommand.TheVariants.{ProveLive}
use Rattle.raw_command_line.specs.declared.arguments.Command.TheVariants.{Reads}
use Rattle.raw_proof_commands.proofs.live_proved.prove_rows.Goals as goal

pub returns-in-Ok-None : goal.returns-in-Ok-None
returns-in-Ok-None g c = λ input meant.
    let set : ProgramSet = c.args.claim.set in
    let s : Stream = c.in-Ok.seated.stream in
    let order : List ℕ = c.in-Ok.seated.order.items in
    let owed : IsRowsProvedLive input no_cut_line Unproved =
    record {
      set = set;
      fed = c.args.claim.input;
      meaning = meant.meaning;
      seated = s;
      order = order;
      seats = subst (λ (fed : FedStream). IsSeatedAs set.topo fed.stream s order) c.input.view_is c.in-Ok.ensures.seated;
      answer = None;
      says = tt;
      written = refl;
      ended = refl;
    } in
    c.ended.ensures (Reads ProveLive) input no_cut_line (sink_seen g.K.Sink.sight c.args.out.now c.write_no_cut.new.out) c.write_no_cut.ensures
    (subst (λ b. IsLiveOutputBy b input no_cut_line Unproved) (sym meant.kind) owed)
