-- What is shown of a processor is so in every order of steps.
use Rattle.std.proofs.Common.{◌≡◌, ℕ, ◌≤◌, ◌++◌, sym, ap, ◌∙◌, subst}
use Rattle.std.specs.Prelude.{slice_get}
use Rattle.raw_network.specs.Network.{count_of}
use Rattle.raw_network.proofs.Kth.{kth_at}
use Rattle.raw_model.specs.Program.{ProgramSet, IsSet}
use Rattle.raw_model.specs.Machine.{machine_of}
use Rattle.raw_model.specs.Start.{start}
use Rattle.raw_model.specs.Rest.{IsLawful, kth_local}
use Rattle.raw_model.specs.Serial.{serial}
use Rattle.raw_model.proofs.Sweeping.{serial_rests}
use Rattle.raw_debug.specs.Walking.{up_to, state_at}
use Rattle.raw_debug.proofs.UpTo.{up_to_begins, up_to_count}

-- in the serial order it is the local state right after the k-th step
pub serial_kth : (set : ProgramSet) (p k : ℕ) → IsSet set → k ≤ count_of p (serial set)
    → kth_local set (start set) (serial set) p k ≡ slice_get (state_at set p k).locals p
unfolding state_at
serial_kth set p k valid le =
    let (rest, is) = up_to_begins p k (serial set) in
    let front = up_to p k (serial set) in
    let lawful = subst (IsLawful set) is (serial_rests set valid).lawful in
    ap (λ steps. kth_local set (start set) steps p k) is
    ∙ ap (kth_local set (start set) (front ++ rest) p) (sym (up_to_count p k (serial set) le))
    ∙ kth_at (machine_of set) (start set) front rest p lawful
