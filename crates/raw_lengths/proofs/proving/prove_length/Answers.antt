use Rattle.std.proofs.Common.{◌≡◌, ◌+◌, ◌*◌, ◌≤◌, true, None, subst}
use Rattle.std.specs.Prelude.{IfOk}
use Rattle.std.proofs.lemmas.Result.{IfOk-weaker}
use Rattle.raw_model.specs.Program.{ProgramSet, IsSet}
use Rattle.raw_stream.specs.Streams.{Stream}
use Rattle.raw_stream.specs.Unrolled.{unrolled}
use Rattle.raw_term.specs.Claims.{Meets}
use Rattle.raw_row_terms.specs.RowClaims.{HasRows, HasPortsOf, misfed}
use Rattle.raw_row_terms.specs.Right.{MeetsRows}
use Rattle.raw_rows.specs.Lengths.{LengthProof, IsLengthProof, HasRoomFor}
use Rattle.raw_lengths.specs.Proofs.{proof_of}
use Rattle.raw_lengths.proofs.Rooms.{room_at}
use Rattle.raw_lengths.proofs.proving.prove_length.Goals as goal
use Rattle.raw_lengths.proofs.proving.prove_length.Goals.{After-is_length_proof}

-- what a law says of a set that has room for what a proof takes
by_law : (R : ProgramSet → Stream → Type 0)
    → ((set : ProgramSet) (s : Stream) (w : LengthProof) → IsSet set → HasRows s → HasPortsOf set s → misfed set s ≡ None → IsLengthProof set s w → HasRoomFor set s w → R set s)
    → (c : After-is_length_proof) → IfOk c.is_length_proof.result (λ yes. yes ≡ true → R c.args.set.now c.args.stream.now)
by_law R law c =
    let set : ProgramSet = c.args.set.now in
    let s : Stream = c.args.stream.now in
    let w : LengthProof = proof_of c.in-Some.proof in
    let valid : IsSet set = subst IsSet c.set.view_is c.set.invariant in
    let room : HasRoomFor set s w = record {
      room = room_at set s c.requires.rows c.requires.ports (c.have_room.ensures c.if-not-have_room.false);
      steps = subst (λ (g : ProgramSet). w.first_limit + w.kernels * w.limit + w.last_limit ≤ g.limit) c.set.view_is (c.has_steps.ensures c.if-not-has_steps.false);
    } in
    IfOk-weaker c.is_length_proof.result _ _
    (λ yes proof e. law set s w valid c.requires.rows c.requires.ports c.requires.counts (proof e) room)
    c.is_length_proof.ensures

pub returns-clause-meets : goal.returns-clause-meets
returns-clause-meets c = by_law MeetsRows c.law_lengths.ensures.rows (goal.at.returns-clause-meets c).After-is_length_proof

pub returns-clause-unrolled : goal.returns-clause-unrolled
returns-clause-unrolled c = by_law (λ set s. Meets set (unrolled s)) c.law_lengths.ensures.unrolled (goal.at.returns-clause-unrolled c).After-is_length_proof
