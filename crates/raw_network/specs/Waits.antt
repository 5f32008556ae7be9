-- What a processor that is not enabled waits for first.
use Rattle.std.specs.Prelude.{ℕ, ◌<◌, Bool, ◌&&◌, nat_lt, nat_le, Option, Some, None, List, length, slice_get, if◌then◌else◌}
use Rattle.std.specs.List.{find}
use Rattle.raw_network.specs.Network.{Network, State, values_on, count_of}

-- the wire holds fewer values than are taken from it
abbrev pub lacks_values : List ℕ → List (List ℕ) → ℕ → Bool
lacks_values takes wires w = nat_lt (length (values_on wires w)) (count_of w takes)

-- the wire is sent to, and is full
abbrev pub lacks_room : ℕ → List ℕ → List (List ℕ) → ℕ → Bool
lacks_room depth sends wires w = nat_lt 0 (count_of w sends) && nat_le depth (length (values_on wires w))

-- the first of the two that is there
abbrev pub either_first : Option ℕ → Option ℕ → Option ℕ
either_first None o = o
either_first (Some w) o = Some w

-- the first wire whose need is unmet: of a processor's inputs, in their order, one that lacks values; where
-- there is none, of its outputs, in their order, one that lacks room
abbrev pub first_unmet : ℕ → List ℕ → List ℕ → List ℕ → List ℕ → List (List ℕ) → Option ℕ
first_unmet depth inputs outputs takes sends wires =
    either_first (find (lacks_values takes wires) inputs) (find (lacks_room depth sends wires) outputs)

-- the first wire whose need is unmet, of a processor with this local state, where it is not stopped
abbrev pub wait_of : {L : Type 0} → Network L → (ℕ → List ℕ) → (ℕ → List ℕ) → List (List ℕ) → ℕ → Option L → Option ℕ
wait_of net inputs outputs wires p None = None
wait_of net inputs outputs wires p (Some l) =
    if net.is_stopped p l then None
    else first_unmet net.depth (inputs p) (outputs p) (net.takes p l) (net.sends p l) wires

-- the wire that a processor waits for first; one that is stopped, or is not there, waits for none
abbrev pub first_wait : {L : Type 0} → Network L → (ℕ → List ℕ) → (ℕ → List ℕ) → State L → ℕ → Option ℕ
first_wait net inputs outputs s p = wait_of net inputs outputs s.wires p (slice_get s.locals p)

-- each wire that a row takes from is among its processor's inputs, and each that it may send to among its outputs
pub record IsCovered {L : Type 0} (net : Network L) (inputs outputs : ℕ → List ℕ) : Type 0 where
  pub takes : (p : ℕ) (l : L) (w : ℕ) → 0 < count_of w (net.takes p l) → 0 < count_of w (inputs p)
  pub sends : (p : ℕ) (l : L) (w : ℕ) → 0 < count_of w (net.sends p l) → 0 < count_of w (outputs p)
