use Rattle.std.proofs.Common.{ℕ, List, refl, sym, subst}
use Rattle.raw_shell.specs.declared.ending.CommandEnding.TheVariants.{Unproved}
use Rattle.raw_shell.specs.Seen.{sink_seen}
use Rattle.raw_owed.specs.LiveOutputs.{IsNotProvedLive, IsLiveOutputBy}
use Rattle.raw_verdict.specs.LiveText.{no_cut_line}
use Rattle.raw_command_line.specs.declared.arguments.ReadingCommand.TheVariants.{ProveLive}
use Rattle.raw_command_line.specs.declared.arguments.Command.TheVariants.{Reads}
use Rattle.raw_proof_commands.proofs.live_proved.put_no_cut.Goals as goal

pub returns : goal.returns
returns g c = λ input meant.
    let claim = c.args.claim.now in
    let owed : IsNotProvedLive input no_cut_line Unproved =
    record { set = claim.set; flow = claim.flow; places = claim.places.items; meaning = meant.meaning; written = refl; ended = refl } in
    c.ended.ensures (Reads ProveLive) input no_cut_line (sink_seen g.K.Sink.sight c.args.out.now c.write_no_cut.new.out) c.write_no_cut.ensures
    (subst (λ b. IsLiveOutputBy b input no_cut_line Unproved) (sym meant.kind) owed)
