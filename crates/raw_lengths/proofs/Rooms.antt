-- Room for what the ports of a set are due of all rows.
use Rattle.std.proofs.Common.{◌≡◌, ℕ, ◌*◌, ◌<◌, ◌≤◌, length, sym, subst, ⊎_elim, arith}
use Rattle.std.specs.Prelude.{slice_get}
use Rattle.std.proofs.lemmas.Bool.{cases_lt}
use Rattle.raw_model.specs.Program.{ProgramSet}
use Rattle.raw_model.specs.Machine.{capacity_of}
use Rattle.raw_stream.specs.Streams.{Stream, due_at}
use Rattle.raw_stream.specs.Kept.{due_count}
use Rattle.raw_cut.proofs.Enough.{none_due}
use Rattle.raw_row_terms.specs.RowClaims.{HasRows, HasPortsOf}

pub room_at : (set : ProgramSet) (s : Stream) → HasRows s → HasPortsOf set s → ((q : ℕ) → q < length set.ports → due_count s q ≤ capacity_of (slice_get set.ports q)) → (q : ℕ) → due_count s q ≤ capacity_of (slice_get set.ports q)
room_at set s rows ports room q =
    ⊎_elim (λ (below : q < length set.ports). room q below)
    (λ (past : length set.ports ≤ q).
    let none : length (due_at s q) ≡ 0 = none_due s q rows.named (omega (arith, past, ports.sinks)) in
    subst (λ (n : ℕ). s.count * n ≤ capacity_of (slice_get set.ports q)) (sym none) (omega arith))
    (cases_lt q (length set.ports))
