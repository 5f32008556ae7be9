-- Processors joined by wires, and one step of one of them.
use Rattle.std.specs.Prelude.{ℕ, zero, suc, Bool, false, not, ◌&&◌, ◌==◌, nat_lt, nat_le, Option, Some, None, List, [], ◌∷◌, ◌++◌, length, drop, slice_get, slice_set, slice_index, slice_index_or, if◌then◌else◌}
use Rattle.std.specs.List.{list_all}

-- a value on its way to a wire
pub record Sent : Type 0 where
  pub wire : ℕ
  pub value : ℕ

-- what a row of a processor's table does: the local state after it, the values that it sends, in
-- order, and the address that it touches
pub record Row (L : Type 0) : Type 0 where
  pub next : L
  pub sent : List Sent
  pub touched : Option ℕ

-- A network over local states L. `depth` is the most values that a wire holds. Of a processor with its
-- local state it says whether it is stopped; the wires that its next row takes values from, in order,
-- a wire once for each value; the wires that the row may send to; and the row itself, a function of
-- the values taken.
pub record Network (L : Type 0) : Type 0 where
  pub depth : ℕ
  pub is_stopped : ℕ → L → Bool
  pub takes : ℕ → L → List ℕ
  pub sends : ℕ → L → List ℕ
  pub row : ℕ → L → List ℕ → Row L

-- the local state of each processor, and the values on each wire, front first
pub record State (L : Type 0) : Type 0 where
  pub locals : List L
  pub wires : List (List ℕ)

-- the values on a wire
abbrev pub values_on : List (List ℕ) → ℕ → List ℕ
values_on wires w = slice_index_or wires w []

-- how often a number stands in a list
abbrev pub count_of : ℕ → List ℕ → ℕ
count_of w [] = zero
count_of w (v ∷ vs) = if v == w then suc (count_of w vs) else count_of w vs

-- the values at the fronts of these wires, taken one after another
abbrev pub fronts : List ℕ → List (List ℕ) → List ℕ
fronts [] wires = []
fronts (w ∷ ws) wires = slice_index (values_on wires w) 0 ∷ fronts ws (slice_set wires w (drop 1 (values_on wires w)))

-- the wires after these fronts are taken
abbrev pub taken : List ℕ → List (List ℕ) → List (List ℕ)
taken [] wires = wires
taken (w ∷ ws) wires = taken ws (slice_set wires w (drop 1 (values_on wires w)))

-- the wires after these values are appended, each to its wire
abbrev pub appended : List Sent → List (List ℕ) → List (List ℕ)
appended [] wires = wires
appended (m ∷ ms) wires = appended ms (slice_set wires m.wire (values_on wires m.wire ++ m.value ∷ []))

-- each wire taken from holds as many values as are taken
abbrev pub has_values : List ℕ → List (List ℕ) → Bool
has_values ws wires = list_all (λ w. nat_le (count_of w ws) (length (values_on wires w))) ws

-- each wire sent to holds fewer values than the most
abbrev pub has_room : ℕ → List ℕ → List (List ℕ) → Bool
has_room depth ws wires = list_all (λ w. nat_lt (length (values_on wires w)) depth) ws

-- a processor with this local state may take its next step; one that is not there may not
abbrev pub is_ready : {L : Type 0} → Network L → ℕ → Option L → List (List ℕ) → Bool
is_ready net p None wires = false
is_ready net p (Some l) wires =
    not (net.is_stopped p l) && (has_values (net.takes p l) wires && has_room net.depth (net.sends p l) wires)

-- a processor may take its next step
abbrev pub is_enabled : {L : Type 0} → Network L → State L → ℕ → Bool
is_enabled net s p = is_ready net p (slice_get s.locals p) s.wires

-- the row that a processor with this local state does next
abbrev pub row_at : {L : Type 0} → Network L → ℕ → L → List (List ℕ) → Row L
row_at net p l wires = net.row p l (fronts (net.takes p l) wires)

-- the state after the step of a processor with this local state
abbrev pub step_from : {L : Type 0} → Network L → State L → ℕ → Option L → State L
step_from net s p None = s
step_from net s p (Some l) =
    record {
      locals = slice_set s.locals p (row_at net p l s.wires).next;
      wires = appended (row_at net p l s.wires).sent (taken (net.takes p l) s.wires);
    }

-- the state after a step of an enabled processor: its operands are taken from the fronts of their
-- wires, its row is done, and each value that it sends is appended to its wire
abbrev pub step : {L : Type 0} → Network L → State L → ℕ → State L
step net s p = step_from net s p (slice_get s.locals p)

-- what a step did: the wires that it took from and the values, in order, the values that it sent, the
-- address that it touched, and the local state of its processor right after it
pub record Event (L : Type 0) : Type 0 where
  pub from : List ℕ
  pub took : List ℕ
  pub sent : List Sent
  pub touched : Option ℕ
  pub after : Option L

-- what the row of a processor with this local state does with these values
abbrev pub event_with : {L : Type 0} → Network L → ℕ → L → List ℕ → Event L
event_with net p l vs =
    record {
      from = net.takes p l;
      took = vs;
      sent = (net.row p l vs).sent;
      touched = (net.row p l vs).touched;
      after = Some (net.row p l vs).next;
    }

-- what the next step of a processor with this local state does
abbrev pub event_from : {L : Type 0} → Network L → List (List ℕ) → ℕ → Option L → Event L
event_from net wires p None = record { from = []; took = []; sent = []; touched = None; after = None }
event_from net wires p (Some l) = event_with net p l (fronts (net.takes p l) wires)

-- what the next step of a processor does
abbrev pub event_of : {L : Type 0} → Network L → State L → ℕ → Event L
event_of net s p = event_from net s.wires p (slice_get s.locals p)
