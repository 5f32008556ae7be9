use Rattle.std.proofs.Common.{List, ℕ, sym, subst}
use Rattle.raw_stream.specs.Streams.{Stream}
use Rattle.raw_stream.specs.Unrolled.{unrolled}
use Rattle.raw_term.specs.Claims.{Meets}
use Rattle.raw_row_terms.specs.RowClaims.{HasRows, HasPortsOf, AreSinksOf}
use Rattle.raw_stream_choice.specs.PortNumbers.{numbered}
use Rattle.raw_stream_choice.proofs.Twins.{are_sinks, has_rows, has_ports, meets_stream}
use Rattle.raw_stream_choice.proofs.meeting.is_twin_proved.Goals as goal

pub prove_rows-requires-clause-claim : goal.prove_rows-requires-clause-claim
prove_rows-requires-clause-claim c =
    let s = c.args.stream.now in
    record {
      rows = subst (λ (t : Stream). HasRows t) (sym c.requires.stands.twin_is) (has_rows s c.requires.stands.stream c.requires.stands.few);
      ports = subst (λ (t : Stream). HasPortsOf c.args.set.now t) (sym c.requires.stands.twin_is) (has_ports c.args.set.now s c.requires.stands.valid c.requires.stands.grid);
      sinks = subst (λ (t : Stream). AreSinksOf t c.args.sinks.now) (sym c.requires.stands.twin_is)
          (subst (λ (order : List ℕ). AreSinksOf (numbered s) order) (sym c.requires.sinks) (are_sinks s c.requires.stands.stream.named));
    }

pub returns-in-Proved : goal.returns-in-Proved
returns-in-Proved c = λ yes.
    meets_stream c.args.set.now c.args.stream.now c.requires.stands.stream.named
    (subst (λ (t : Stream). Meets c.args.set.now (unrolled t)) c.requires.stands.twin_is (c.in_ok-prove_rows.ensures.meets c.in-Proved.field-0 c.in-Proved.is))
