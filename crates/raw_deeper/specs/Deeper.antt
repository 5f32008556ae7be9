-- Networks whose wires hold more values. Each word says one law of one network; `src/laws.rt` claims it of all.
use Rattle.std.specs.Prelude.{◌≡◌, ◌⊎◌, ℕ, ◌≤◌, Bool, true, Some, List, slice_get, IsTrue}
use Rattle.raw_network.specs.Network.{Network, State, count_of}
use Rattle.raw_network.specs.Runs.{IsLawful, end_of, events, events_of, passed, touches}
use Rattle.raw_network.specs.Waits.{first_wait}
use Rattle.raw_network.specs.Laws.{ComesToRest}

-- the network in which a wire holds at most d values, and all else is as in this one
abbrev pub with_depth : {L : Type 0} → Network L → ℕ → Network L
with_depth net d = record net { depth = d }

-- a list of steps that is lawful in the one network is lawful in the other; it does the same there, step by step and
-- processor by processor, and ends in the same state
pub record DoesTheSame {L : Type 0} (net other : Network L) (s : State L) (h : List ℕ) : Type 0 where
  pub lawful : IsLawful other s h
  pub ends : end_of other s h ≡ end_of net s h
  pub did : events other s h ≡ events net s h
  pub did_by : (p : ℕ) → events_of other s h p ≡ events_of net s h p
  pub passed_on : (w : ℕ) → passed other s h w ≡ passed net s h w
  pub touched_by : (p : ℕ) → touches other s h p ≡ touches net s h p

-- What a network does it does with deeper wires,
abbrev pub DoesTheSameDeeper : {L : Type 0} → Network L → Type 0
DoesTheSameDeeper {L = L} net =
    (d : ℕ) (s : State L) (h : List ℕ) → net.depth ≤ d → IsLawful net s h → DoesTheSame net (with_depth net d) s h

-- and until it rests no processor takes fewer steps there.
abbrev pub NoFewerSteps : {L : Type 0} → Network L → Type 0
NoFewerSteps {L = L} net =
    (d : ℕ) (s : State L) (h g : List ℕ) → net.depth ≤ d → IsLawful net s h → ComesToRest (with_depth net d) s g →
    (p : ℕ) → count_of p h ≤ count_of p g

-- processor p is there, and takes no more steps
pub record IsStopped {L : Type 0} (net : Network L) (s : State L) (p : ℕ) : Type 0 where
  pub l : L
  pub here : slice_get s.locals p ≡ Some l
  pub stopped : net.is_stopped p l ≡ true

-- processor p waits first for wire w, from which it takes values, and the processor that sends there passes the test
pub record WaitsForValue {L : Type 0} (net : Network L) (producer consumer : ℕ → ℕ) (inputs outputs : ℕ → List ℕ) (test : ℕ → Bool) (s : State L) (p w : ℕ) : Type 0 where
  pub waits : first_wait net inputs outputs s p ≡ Some w
  pub takes : consumer w ≡ p
  pub on : IsTrue (test (producer w))

-- each processor that passes the test is stopped, or waits for a value from one that passes
abbrev pub AreHeld : {L : Type 0} → Network L → (ℕ → ℕ) → (ℕ → ℕ) → (ℕ → List ℕ) → (ℕ → List ℕ) → (ℕ → Bool) → State L → Type 0
AreHeld net producer consumer inputs outputs test s =
    (p : ℕ) → IsTrue (test p) →
    IsStopped net s p ⊎ ((w : ℕ) × WaitsForValue net producer consumer inputs outputs test s p w)

-- after the steps g of the other network processor p is as it was: it took no step, and waits for what it waited for
pub record IsAsBefore {L : Type 0} (net other : Network L) (inputs outputs : ℕ → List ℕ) (s : State L) (g : List ℕ) (p : ℕ) : Type 0 where
  pub idle : count_of p g ≡ 0
  pub local : slice_get (end_of other s g).locals p ≡ slice_get s.locals p
  pub waits : first_wait other inputs outputs (end_of other s g) p ≡ first_wait net inputs outputs s p

-- such processors stay as they are, however deep the wires are and whatever the others do
abbrev pub StaysHeld : {L : Type 0} → Network L → (ℕ → ℕ) → (ℕ → ℕ) → (ℕ → List ℕ) → (ℕ → List ℕ) → Type 0
StaysHeld {L = L} net producer consumer inputs outputs =
    (test : ℕ → Bool) (d : ℕ) (s : State L) (g : List ℕ) (p : ℕ) → AreHeld net producer consumer inputs outputs test s →
    IsLawful (with_depth net d) s g → IsTrue (test p) → IsAsBefore net (with_depth net d) inputs outputs s g p
