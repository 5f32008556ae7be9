-- A clock that is over stands still.
use Rattle.std.proofs.Common.{◌≡◌, ℕ, suc, ◌+◌, ◌<◌, ◌≤◌, max, ap, ◌∙◌, subst, ⊎_elim, arith}
use Rattle.std.proofs.Math.Nat.{max-eq_left, max-eq_right}
use Rattle.std.proofs.lemmas.Bool.{cases_lt}
use Rattle.raw_network.specs.Runs.{end_of}
use Rattle.raw_network.proofs.Steps.{end_of-append}
use Rattle.raw_lockstep.specs.Lockstep.{all_enabled}
use Rattle.raw_model.specs.Program.{ProgramSet, IsSet}
use Rattle.raw_serial.specs.Running.{Running}
use Rattle.raw_lockstep.proofs.Cycling.{law_empty_is_quiet}
use Rattle.raw_clock.specs.Clock.{clocked, first_clock, machine_at, clock, clock_turns, HasCycles}
use Rattle.raw_clock.specs.Engine.{HasTaken}
use Rattle.raw_clock.proofs.Clocking.{clock_length, quiet_if_over}
use Rattle.raw_clock.proofs.Telling.{state_told}
use Rattle.raw_explore.specs.Engine.{IsAt}

module _ (g : ProgramSet) (valid : IsSet g) (n : ℕ) (has : HasCycles g n) where
  pub clock_stays : clock g (suc n) ≡ clock g n
  clock_stays =
      let quiet = quiet_if_over g valid (clock g n) (clock_length g valid (clock_turns g n)) has.over in
      end_of-append (clocked g) (first_clock g) (clock_turns g n) (all_enabled (clocked g) (clock g n)) ∙ ap (λ h. end_of (clocked g) (clock g n) h) ((law_empty_is_quiet (clocked g) (clock g n)).1 quiet)

  -- a machine that was stepped from at most one past the last cycle on to the last one is at rest
  pub state_at_rest : (m : Running) (k : ℕ) → m.set ≡ g → IsAt m (max k n) → k ≤ n + 1 → m.state ≡ machine_at (clock g n)
  state_at_rest m k same at high =
      let here : m.state ≡ machine_at (clock g (max k n)) = state_told g valid m (clock_turns g (max k n)) (subst (λ h. HasTaken h m (clock_turns h (max k n))) same at) in
      ⊎_elim
      (λ (past : n < k).
      let last : max k n ≡ suc n = max-eq_left (omega (arith, past)) ∙ omega (arith, past, high) in
      here ∙ ap (λ j. machine_at (clock g j)) last ∙ ap machine_at clock_stays)
      (λ (early : k ≤ n). here ∙ ap (λ j. machine_at (clock g j)) (max-eq_right early))
      (cases_lt n k)
