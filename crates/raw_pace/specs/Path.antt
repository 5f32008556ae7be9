-- The longest way through the turns of a network: what each turn needs, and chains of such needs. Each word says one law of
-- one network; `src/laws.rt` claims it of all.
use Rattle.std.specs.Prelude.{◌≡◌, ℕ, zero, suc, true, slice_get, ◌<◌, ◌≤◌, ◌==◌, Option, Some, None, List, [], ◌∷◌, length, IsTrue, IfSome, if◌then◌else◌}
use Rattle.raw_network.specs.Network.{Network, State, count_of, is_enabled}
use Rattle.raw_network.specs.Runs.{IsLawful, end_of}
use Rattle.raw_network.specs.Waits.{first_wait}
use Rattle.raw_deeper.specs.Deeper.{with_depth}
use Rattle.raw_lockstep.specs.Lockstep.{cycles, after_cycles, IsSchedule, first_rounds}

-- a turn: its processor, and how many turns this one takes before it
pub record TurnOf : Type 0 where
  pub p : ℕ
  pub before : ℕ

-- Turn t needs turn u: in no lawful list may it be taken before u was.
abbrev pub Needs : {L : Type 0} → Network L → State L → TurnOf → TurnOf → Type 0
Needs net s t u =
    (h : List ℕ) → IsLawful net s h → count_of t.p h ≡ t.before → IsTrue (is_enabled net (end_of net s h) t.p) →
    u.before < count_of u.p h

-- a chain of turns, the last one first: each needs the next of the list
abbrev pub IsChain : {L : Type 0} → Network L → State L → TurnOf → List TurnOf → Type 0
IsChain net s t [] = Unit {0}
IsChain net s t (u ∷ us) = Needs net s t u × IsChain net s u us

-- no schedule has the last turn of a chain in fewer rounds than the chain has turns
abbrev pub NoneBelowChain : {L : Type 0} → Network L → Type 0
NoneBelowChain {L = L} net =
    (s : State L) (t : TurnOf) (us : List TurnOf) (rounds : List (List ℕ)) (k : ℕ) → IsChain net s t us → IsSchedule net s rounds →
    t.before < count_of t.p (first_rounds k rounds) → length (t ∷ us) ≤ k

-- the turn that processor p takes in the cycle after the first k
abbrev pub next_turn : {L : Type 0} → Network L → State L → ℕ → ℕ → TurnOf
next_turn net s k p = record { p = p; before = count_of p (cycles net s k) }

-- each turn that is taken in the cycle after the first k is the last of a chain of 1 + k turns, one of each cycle up to it
abbrev pub ChainOfEach : {L : Type 0} → Network L → Type 0
ChainOfEach {L = L} net =
    (s : State L) (k p : ℕ) → IsTrue (is_enabled net (after_cycles net s k) p) →
    (us : List TurnOf) × IsChain net s (next_turn net s k p) us × (length us ≡ k)

-- needs go on: what a turn needs needs what that one needs
abbrev pub NeedsGoOn : {L : Type 0} → Network L → Type 0
NeedsGoOn {L = L} net = (s : State L) (t u v : TurnOf) → Needs net s t u → Needs net s u v → Needs net s t v

-- the turn that a processor takes next after these
abbrev pub turn_after : List ℕ → ℕ → TurnOf
turn_after h p = record { p = p; before = count_of p h }

-- the other end of a wire
abbrev pub far_end : (ℕ → ℕ) → (ℕ → ℕ) → ℕ → ℕ → ℕ
far_end producer consumer p w = if consumer w == p then producer w else consumer w

-- one that waits first for a wire can take no turn before the other end of the wire has taken its next one
abbrev pub WaitIsNeed : {L : Type 0} → Network L → (ℕ → ℕ) → (ℕ → ℕ) → (ℕ → List ℕ) → (ℕ → List ℕ) → Type 0
WaitIsNeed {L = L} net producer consumer inputs outputs =
    (s : State L) (h : List ℕ) (p w : ℕ) → IsLawful net s h → first_wait net inputs outputs (end_of net s h) p ≡ Some w →
    Needs net s (turn_after h p) (turn_after h (far_end producer consumer p w))

-- the processor whose turn of the cycle before is needed: itself, where it waits for no wire, else the other end of its first wait
abbrev pub far_or : (ℕ → ℕ) → (ℕ → ℕ) → ℕ → Option ℕ → ℕ
far_or producer consumer p None = p
far_or producer consumer p (Some w) = far_end producer consumer p w

abbrev pub before_of : {L : Type 0} → Network L → (ℕ → ℕ) → (ℕ → ℕ) → (ℕ → List ℕ) → (ℕ → List ℕ) → State L → ℕ → ℕ
before_of net producer consumer inputs outputs t p = far_or producer consumer p (first_wait net inputs outputs t p)

-- the way back from the turn that p takes in the cycle after the first k: one turn of each of these cycles, the last first
abbrev pub way : {L : Type 0} → Network L → (ℕ → ℕ) → (ℕ → ℕ) → (ℕ → List ℕ) → (ℕ → List ℕ) → State L → ℕ → ℕ → List TurnOf
way net producer consumer inputs outputs s zero p = []
way net producer consumer inputs outputs s (suc k) p =
    next_turn net s k (before_of net producer consumer inputs outputs (after_cycles net s k) p)
    ∷ way net producer consumer inputs outputs s k (before_of net producer consumer inputs outputs (after_cycles net s k) p)

-- it is a chain
abbrev pub WayIsChain : {L : Type 0} → Network L → (ℕ → ℕ) → (ℕ → ℕ) → (ℕ → List ℕ) → (ℕ → List ℕ) → Type 0
WayIsChain {L = L} net producer consumer inputs outputs =
    (s : State L) (k p : ℕ) → IsTrue (is_enabled net (after_cycles net s k) p) →
    IsChain net s (next_turn net s k p) (way net producer consumer inputs outputs s k p)
    × (length (way net producer consumer inputs outputs s k p) ≡ k)

-- on the way back no turn waits for room
abbrev pub IsForValues : {L : Type 0} → Network L → (ℕ → ℕ) → (ℕ → ℕ) → (ℕ → List ℕ) → (ℕ → List ℕ) → State L → ℕ → ℕ → Type 0
IsForValues net producer consumer inputs outputs s zero p = Unit {0}
IsForValues net producer consumer inputs outputs s (suc k) p =
    IfSome (first_wait net inputs outputs (after_cycles net s k) p) (λ w. consumer w ≡ p)
    × IsForValues net producer consumer inputs outputs s k (before_of net producer consumer inputs outputs (after_cycles net s k) p)

-- then it is a chain with deeper wires too: they make its last turn no sooner
abbrev pub WayIsDeepChain : {L : Type 0} → Network L → (ℕ → ℕ) → (ℕ → ℕ) → (ℕ → List ℕ) → (ℕ → List ℕ) → Type 0
WayIsDeepChain {L = L} net producer consumer inputs outputs =
    (d : ℕ) (s : State L) (k p : ℕ) → net.depth ≤ d → IsTrue (is_enabled net (after_cycles net s k) p) →
    IsForValues net producer consumer inputs outputs s k p →
    IsChain (with_depth net d) s (next_turn net s k p) (way net producer consumer inputs outputs s k p)

-- a turn that is never taken: no lawful list has it
abbrev pub IsNever : {L : Type 0} → Network L → State L → TurnOf → Type 0
IsNever net s t = (h : List ℕ) → IsLawful net s h → count_of t.p h ≤ t.before

-- one that needs itself is never taken, nor one that needs such a turn; nor is one of a processor that is stopped before it
pub record AreNever {L : Type 0} (net : Network L) (s : State L) : Type 0 where
  pub itself : (t : TurnOf) → Needs net s t t → IsNever net s t
  pub behind : (t u : TurnOf) → Needs net s t u → IsNever net s u → IsNever net s t
  pub stopped : (h : List ℕ) (p : ℕ) (l : L) → IsLawful net s h → slice_get (end_of net s h).locals p ≡ Some l →
      net.is_stopped p l ≡ true → IsNever net s (turn_after h p)
