-- Worked steps of a small network: a source sends 1, 2 and 3 on wire 0, its neighbour doubles them onto
-- wire 1, and the last processor takes two values at a time.
use Rattle.std.proofs.Common.{◌≡◌, ℕ, zero, suc, ◌+◌, ◌*◌, Bool, true, false, List, [], ◌∷◌, Some, None, refl, arith}
use Rattle.std.specs.Prelude.{nat_le, slice_index}
use Rattle.std.specs.List.{All}
use Rattle.std.proofs.lemmas.List.Elements.{All-nil, All-from_recursion}
use Rattle.raw_network.specs.Network.{Network, State, Row, Sent, fronts, taken, appended, is_enabled, event_of}
use Rattle.raw_network.specs.Runs.{IsLawful, end_of, kth, passed, touches}
use Rattle.raw_network.specs.Wired.{IsWired}
use Rattle.raw_network.specs.Waits.{first_wait}
use Rattle.raw_network.specs.Laws.{received}

abbrev stops : ℕ → ℕ → Bool
stops zero l = nat_le 3 l
stops (suc p) l = false

abbrev takes : ℕ → ℕ → List ℕ
takes (suc zero) l = 0 ∷ []
takes (suc (suc zero)) l = 1 ∷ 1 ∷ []
takes _ l = []

abbrev sends : ℕ → ℕ → List ℕ
sends zero l = 0 ∷ []
sends (suc zero) l = 1 ∷ []
sends (suc (suc p)) l = []

abbrev row : ℕ → ℕ → List ℕ → Row ℕ
row zero l values = record { next = l + 1; sent = record { wire = 0; value = l + 1 } ∷ []; touched = None }
row (suc zero) l values =
    record {
      next = l + 1;
      sent = record { wire = 1; value = 2 * slice_index values 0 } ∷ [];
      touched = Some (slice_index values 0);
    }
row (suc (suc p)) l values =
    record { next = 100 * l + 10 * slice_index values 0 + slice_index values 1; sent = []; touched = None }

abbrev line : Network ℕ
line = record { depth = 2; is_stopped = stops; takes = takes; sends = sends; row = row }

abbrev begin : State ℕ
begin = record { locals = 0 ∷ 0 ∷ 0 ∷ []; wires = [] ∷ [] ∷ [] }

-- wire w leads from processor w to the next one
line_wired : IsWired line (λ w. w) (λ w. suc w)
line_wired = record { apart = λ w e. absurd (omega arith); takes_own = takes_own; sends_own = sends_own; sent_own = sent_own }
  where
    takes_own : (p l : ℕ) → All (λ w. suc w ≡ p) (takes p l)
    takes_own zero l = All-nil (λ w. suc w ≡ zero)
    takes_own (suc zero) l = All-from_recursion (λ w. suc w ≡ 1) (0 ∷ []) (refl, tt)
    takes_own (suc (suc zero)) l = All-from_recursion (λ w. suc w ≡ 2) (1 ∷ 1 ∷ []) (refl, (refl, tt))
    takes_own (suc (suc (suc p))) l = All-nil (λ w. suc w ≡ suc (suc (suc p)))

    sends_own : (p l : ℕ) → All (λ w. w ≡ p) (sends p l)
    sends_own zero l = All-from_recursion (λ w. w ≡ 0) (0 ∷ []) (refl, tt)
    sends_own (suc zero) l = All-from_recursion (λ w. w ≡ 1) (1 ∷ []) (refl, tt)
    sends_own (suc (suc p)) l = All-nil (λ w. w ≡ suc (suc p))

    sent_own : (p l : ℕ) (values : List ℕ) → All (λ (m : Sent). m.wire ≡ p) (row p l values).sent
    sent_own zero l values = All-from_recursion (λ (m : Sent). m.wire ≡ 0) (row 0 l values).sent (refl, tt)
    sent_own (suc zero) l values = All-from_recursion (λ (m : Sent). m.wire ≡ 1) (row 1 l values).sent (refl, tt)
    sent_own (suc (suc p)) l values = All-nil (λ (m : Sent). m.wire ≡ suc (suc p))

-- values are taken at the front and appended at the back
front_first : fronts (0 ∷ 1 ∷ 0 ∷ []) ((5 ∷ 6 ∷ 7 ∷ []) ∷ (8 ∷ []) ∷ []) ≡ 5 ∷ 8 ∷ 6 ∷ []
front_first = refl

left_after : taken (0 ∷ 1 ∷ 0 ∷ []) ((5 ∷ 6 ∷ 7 ∷ []) ∷ (8 ∷ []) ∷ []) ≡ (7 ∷ []) ∷ [] ∷ []
left_after = refl

back_last : appended (record { wire = 0; value = 9 } ∷ []) ((5 ∷ []) ∷ []) ≡ (5 ∷ 9 ∷ []) ∷ []
back_last = refl

-- each processor's wires, in order
abbrev inputs : ℕ → List ℕ
inputs p = takes p 0

abbrev outputs : ℕ → List ℕ
outputs p = sends p 0

-- at the beginning the source alone is enabled, and each other processor waits for its input
enabled_first : (is_enabled line begin 0 ≡ true) × (is_enabled line begin 1 ≡ false) × (is_enabled line begin 3 ≡ false)
enabled_first = (refl, refl, refl)

waits_first : (first_wait line inputs outputs begin 0 ≡ None) × (first_wait line inputs outputs begin 1 ≡ Some 0) × (first_wait line inputs outputs begin 2 ≡ Some 1)
waits_first = (refl, refl, refl)

-- after two steps of the source its wire is full, and it waits for room there
source_waits : first_wait line inputs outputs (end_of line begin (0 ∷ 0 ∷ [])) 0 ≡ Some 0
source_waits = refl

full_wire : is_enabled line (end_of line begin (0 ∷ 0 ∷ [])) 0 ≡ false
full_wire = refl

-- two lawful lists in which each processor has as many steps
abbrev one : List ℕ
one = 0 ∷ 1 ∷ 0 ∷ 1 ∷ 2 ∷ []

abbrev other : List ℕ
other = 0 ∷ 0 ∷ 1 ∷ 1 ∷ 2 ∷ []

one_lawful : IsLawful line begin one
one_lawful = (refl, (refl, (refl, (refl, (refl, tt)))))

other_lawful : IsLawful line begin other
other_lawful = (refl, (refl, (refl, (refl, (refl, tt)))))

one_end : end_of line begin one ≡ record { locals = 2 ∷ 2 ∷ 24 ∷ []; wires = [] ∷ [] ∷ [] }
one_end = refl

other_end : end_of line begin other ≡ record { locals = 2 ∷ 2 ∷ 24 ∷ []; wires = [] ∷ [] ∷ [] }
other_end = refl

-- what they passed, took and touched
one_passed : (passed line begin one 0 ≡ 1 ∷ 2 ∷ []) × (passed line begin one 1 ≡ 2 ∷ 4 ∷ [])
one_passed = (refl, refl)

one_received : received line begin one 1 ≡ 2 ∷ 4 ∷ []
one_received = refl

one_touched : (touches line begin one 1 ≡ 1 ∷ 2 ∷ []) × (touches line begin one 2 ≡ [])
one_touched = (refl, refl)

one_kth : (kth line begin one 1 0 ≡ Some 0) × (kth line begin one 1 2 ≡ Some 2) × (kth line begin one 1 3 ≡ None)
one_kth = (refl, refl, refl)

-- the last step took two values from one wire, and sent nothing
last_event : event_of line (end_of line begin (0 ∷ 0 ∷ 1 ∷ 1 ∷ [])) 2
    ≡ record { from = 1 ∷ 1 ∷ []; took = 2 ∷ 4 ∷ []; sent = []; touched = None; after = Some 24 }
last_event = refl
