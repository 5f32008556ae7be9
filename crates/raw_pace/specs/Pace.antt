-- What makes the cycles of a network fewer. Each word says one law of one network; `src/laws.rt` claims it of all.
use Rattle.std.specs.Prelude.{◌≡◌, ℕ, ◌+◌, ◌≤◌, List, [], ◌∷◌, ◌++◌}
use Rattle.raw_network.specs.Network.{Network, State, count_of}
use Rattle.raw_network.specs.Runs.{IsQuiet}
use Rattle.raw_lockstep.specs.Lockstep.{cycles, after_cycles}
use Rattle.raw_lockstep.specs.Stalls.{with_stalls, unpaid, steps_in}
use Rattle.raw_deeper.specs.Deeper.{with_depth}

-- with deeper wires each processor has at least as many turns in as many cycles,
abbrev pub DeeperIsAhead : {L : Type 0} → Network L → Type 0
DeeperIsAhead {L = L} net =
    (d : ℕ) (s : State L) (k p : ℕ) → net.depth ≤ d → count_of p (cycles net s k) ≤ count_of p (cycles (with_depth net d) s k)

-- and where the state after so many cycles is quiet with deeper wires, they are in it by then
abbrev pub DeeperRestsToo : {L : Type 0} → Network L → Type 0
DeeperRestsToo {L = L} net =
    (d : ℕ) (s : State L) (k : ℕ) → net.depth ≤ d → IsQuiet (with_depth net d) (after_cycles net s k) →
    after_cycles (with_depth net d) s k ≡ after_cycles net s k

-- by `less` each touch costs no more than by `cost`, whatever was touched before it
pub record CostsNoMore (less cost : ℕ → List ℕ → ℕ) : Type 0 where
  pub first : (p : ℕ) → less p [] ≤ cost p []
  pub rises : (p : ℕ) (touched : List ℕ) (address : ℕ) → cost p touched ≤ cost p (touched ++ address ∷ [])
  pub each : (p : ℕ) (touched : List ℕ) (address : ℕ) →
      less p (touched ++ address ∷ []) + cost p touched ≤ cost p (touched ++ address ∷ []) + less p touched

-- where touches cost no more, each processor has at least as many steps in as many cycles,
abbrev pub FewerStallsAreAhead : {L : Type 0} → Network L → Type 0
FewerStallsAreAhead {L = L} net =
    (less cost : ℕ → List ℕ → ℕ) (s : State L) (k p : ℕ) → CostsNoMore less cost →
    count_of p (steps_in net cost (unpaid s) (cycles (with_stalls net cost) (unpaid s) k))
    ≤ count_of p (steps_in net less (unpaid s) (cycles (with_stalls net less) (unpaid s) k))

-- and they rest where they rest with the greater cost
abbrev pub FewerStallsRestToo : {L : Type 0} → Network L → Type 0
FewerStallsRestToo {L = L} net =
    (less cost : ℕ → List ℕ → ℕ) (s : State L) (k : ℕ) → CostsNoMore less cost →
    IsQuiet (with_stalls net cost) (after_cycles (with_stalls net cost) (unpaid s) k) →
    IsQuiet (with_stalls net less) (after_cycles (with_stalls net less) (unpaid s) k)
