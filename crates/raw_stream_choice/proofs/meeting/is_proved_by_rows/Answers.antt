use Rattle.std.proofs.Common.{sym, subst}
use Rattle.std.proofs.lemmas.Result.{IfOk-weaker}
use Rattle.raw_stream.specs.Streams.{Stream}
use Rattle.raw_stream.specs.Unrolled.{unrolled}
use Rattle.raw_term.specs.Claims.{Meets}
use Rattle.raw_row_terms.specs.RowClaims.{HasRows, HasPortsOf}
use Rattle.raw_stream_choice.proofs.Twins.{has_rows, has_ports, meets_stream}
use Rattle.raw_stream_choice.proofs.meeting.is_proved_by_rows.Goals as goal

pub misfed-requires : goal.misfed-requires
misfed-requires c = subst (λ (t : Stream). HasRows t) (sym c.requires.twin_is) (has_rows c.args.stream.now c.requires.stream c.requires.few)

pub prove_length-requires-clause-rows : goal.prove_length-requires-clause-rows
prove_length-requires-clause-rows c = subst (λ (t : Stream). HasRows t) (sym c.requires.twin_is) (has_rows c.args.stream.now c.requires.stream c.requires.few)

pub prove_length-requires-clause-ports : goal.prove_length-requires-clause-ports
prove_length-requires-clause-ports c =
    subst (λ (t : Stream). HasPortsOf c.args.set.now t) (sym c.requires.twin_is) (has_ports c.args.set.now c.args.stream.now c.requires.valid c.requires.grid)

pub returns-in-None : goal.returns-in-None
returns-in-None c =
    IfOk-weaker c.prove_length.result _ _
    (λ yes meets e. meets_stream c.args.set.now c.args.stream.now c.requires.stream.named (subst (λ (t : Stream). Meets c.args.set.now (unrolled t)) c.requires.twin_is (meets e)))
    c.prove_length.ensures.unrolled
