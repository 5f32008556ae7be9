-- The longest way of a set.
use Rattle.std.proofs.Common.{◌≡◌, ℕ, ◌<◌, ◌≤◌, Bool, true, false, List, ◌∷◌, length, sym, ◌∙◌, arith}
use Rattle.raw_network.specs.Network.{count_of, is_enabled}
use Rattle.raw_grid.specs.Wires.{producer_of, consumer_of}
use Rattle.raw_model.specs.Program.{ProgramSet, IsSet}
use Rattle.raw_lockstep.specs.Lockstep.{first_rounds}
use Rattle.raw_pace.specs.Path.{TurnOf, IsChain}
use Rattle.raw_pace.proofs.Path.{law_none_below_chain}
use Rattle.raw_pace.proofs.Waiting.{law_way_is_chain}
use Rattle.raw_network.specs.Waits.{IsCovered}
use Rattle.raw_lockstep.specs.Stalls.{owes, row_wires}
use Rattle.raw_model.specs.Machine.{machine_of}
use Rattle.raw_model.specs.Waits.{inputs_at, outputs_at}
use Rattle.raw_model.proofs.Waiting.{covered}
use Rattle.raw_clock.specs.Clock.{cost_of, clocked, first_clock, clock_turns, clock}
use Rattle.raw_clock.specs.Laws.{IsTurnSchedule}
use Rattle.raw_clock.proofs.Clocking.{clock_wired, clock_length}
use Rattle.raw_clock.proofs.Turning.{goes_is}
use Rattle.raw_steady.specs.Steady.{EachHasLongest}

module _ (set : ProgramSet) (valid : IsSet set) where
  clock_covered : IsCovered (clocked set) (inputs_at set.topo) (outputs_at set.topo)
  clock_covered =
      record {
        takes = λ p x w some. (covered set).takes p x.local w (fewer (owes (cost_of set) p x) ((machine_of set).takes p x.local) w some);
        sends = λ p x w some. (covered set).sends p x.local w (fewer (owes (cost_of set) p x) ((machine_of set).sends p x.local) w some);
      }
    where
      fewer : (b : Bool) (ws : List ℕ) (w : ℕ) → 0 < count_of w (row_wires b ws) → 0 < count_of w ws
      fewer true ws w some = absurd (omega (arith, some))
      fewer false ws w some = some

  pub each_has_longest : EachHasLongest set
  each_has_longest k p there on =
      let many = clock_length set valid (clock_turns set k) in
      let may : is_enabled (clocked set) (clock set k) p ≡ true = sym (goes_is set (clock set k) p (omega (arith, there, many))) ∙ on in
      law_way_is_chain (clocked set) (producer_of set.topo) (consumer_of set.topo) (inputs_at set.topo) (outputs_at set.topo) (clock_wired set valid) clock_covered (first_clock set) k p may

  pub none_below : (t : TurnOf) (us : List TurnOf) (rounds : List (List ℕ)) (k : ℕ) → IsChain (clocked set) (first_clock set) t us → IsTurnSchedule set rounds
      → t.before < count_of t.p (first_rounds k rounds) → length (t ∷ us) ≤ k
  none_below t us rounds k chain is early =
      law_none_below_chain (clocked set) (producer_of set.topo) (consumer_of set.topo) (clock_wired set valid) (first_clock set) t us rounds k chain is early
