-- Stall turns: the touches of a processor cost turns in which it takes no step.
use Rattle.std.specs.Prelude.{IsTrue, ◌<◌, ◌≡◌, ℕ, suc, ◌+◌, ◌-◌, ◌≤◌, Bool, true, false, not, ◌&&◌, ◌||◌, nat_lt, Option, Some, None, List, [], ◌∷◌, ◌++◌, length, map, slice_get, if◌then◌else◌}
use Rattle.std.specs.List.{filter, range_with_len}
use Rattle.std.specs.Option.{option_to_list}
use Rattle.raw_network.specs.Network.{Network, State, Row, count_of, is_enabled, step}
use Rattle.raw_network.specs.Runs.{IsLawful, end_of, touches, IsQuiet}
use Rattle.raw_network.specs.Wired.{IsWired, IsBounded}
use Rattle.raw_lockstep.specs.Lockstep.{all_enabled, cycles, IsRound, IsSchedule, first_rounds}

-- a local state, the addresses that its processor has touched, in order, and how many stall turns it has paid
pub record Paying (L : Type 0) : Type 0 where
  pub local : L
  pub touched : List ℕ
  pub paid : ℕ

-- some of what the touches cost is not paid; `cost` says how many stall turns a processor's touches cost
abbrev pub owes : {L : Type 0} → (ℕ → List ℕ → ℕ) → ℕ → Paying L → Bool
owes cost p x = nat_lt x.paid (cost p x.touched)

-- the wires of a row, and none where a stall turn is taken in its place
abbrev pub row_wires : Bool → List ℕ → List ℕ
row_wires owing wires = if owing then [] else wires

-- a stall turn, or the row
abbrev pub turn_row : {L : Type 0} → Bool → Paying L → Row L → Row (Paying L)
turn_row true x r = record { next = record x { paid = suc x.paid }; sent = []; touched = None }
turn_row false x r =
    record {
      next = record { local = r.next; touched = x.touched ++ option_to_list r.touched; paid = x.paid };
      sent = r.sent;
      touched = r.touched;
    }

-- The network with stall turns. Its steps are turns: that of a processor that owes stall turns pays one, and takes
-- and sends nothing; each other turn is a step. A processor that is stopped takes no turns, whatever it owes.
abbrev pub with_stalls : {L : Type 0} → Network L → (ℕ → List ℕ → ℕ) → Network (Paying L)
with_stalls net cost =
    record {
      depth = net.depth;
      is_stopped = λ p x. net.is_stopped p x.local;
      takes = λ p x. row_wires (owes cost p x) (net.takes p x.local);
      sends = λ p x. row_wires (owes cost p x) (net.sends p x.local);
      row = λ p x values. turn_row (owes cost p x) x (net.row p x.local values);
    }

-- a state in which nothing was touched and nothing paid
abbrev pub unpaid : {L : Type 0} → State L → State (Paying L)
unpaid s = record { locals = map (λ l. record { local = l; touched = []; paid = 0 }) s.locals; wires = s.wires }

-- a state without what was touched and paid
abbrev pub without_stalls : {L : Type 0} → State (Paying L) → State L
without_stalls s = record { locals = map (λ x. x.local) s.locals; wires = s.wires }

-- what a processor owes, touched and paid; one that is not there did nothing
abbrev pub owes_from : {L : Type 0} → (ℕ → List ℕ → ℕ) → ℕ → Option (Paying L) → Bool
owes_from cost p None = false
owes_from cost p (Some x) = owes cost p x

abbrev pub touched_in : {L : Type 0} → Option (Paying L) → List ℕ
touched_in None = []
touched_in (Some x) = x.touched

abbrev pub paid_in : {L : Type 0} → Option (Paying L) → ℕ
paid_in None = 0
paid_in (Some x) = x.paid

abbrev pub owes_at : {L : Type 0} → (ℕ → List ℕ → ℕ) → State (Paying L) → ℕ → Bool
owes_at cost s p = owes_from cost p (slice_get s.locals p)

abbrev pub touched_by : {L : Type 0} → State (Paying L) → ℕ → List ℕ
touched_by s p = touched_in (slice_get s.locals p)

abbrev pub paid_by : {L : Type 0} → State (Paying L) → ℕ → ℕ
paid_by s p = paid_in (slice_get s.locals p)

-- the steps among turns
abbrev pub steps_in : {L : Type 0} → Network L → (ℕ → List ℕ → ℕ) → State (Paying L) → List ℕ → List ℕ
steps_in net cost s [] = []
steps_in net cost s (p ∷ ps) =
    if owes_at cost s p then steps_in net cost (step (with_stalls net cost) s p) ps
    else p ∷ steps_in net cost (step (with_stalls net cost) s p) ps

-- the processors whose turn in a state is a step, by rising number
abbrev pub all_fired : {L : Type 0} → Network L → (ℕ → List ℕ → ℕ) → State (Paying L) → List ℕ
all_fired net cost s =
    filter (λ p. is_enabled net (without_stalls s) p && not (owes_at cost s p)) (range_with_len 0 (length s.locals))

-- a network with stall turns is wired as the network is
abbrev pub StaysWired : {L : Type 0} → Network L → (ℕ → List ℕ → ℕ) → Type 0
StaysWired net cost = (producer consumer : ℕ → ℕ) → IsWired net producer consumer → IsWired (with_stalls net cost) producer consumer

-- and bounded, where no touches of a processor cost more than the most
abbrev pub StaysBounded : {L : Type 0} → Network L → (ℕ → List ℕ → ℕ) → (ℕ → L → Type 0) → (ℕ → L → ℕ) → (ℕ → ℕ) → Type 0
StaysBounded net cost fit left most =
    IsBounded net fit left → ((p : ℕ) (touched : List ℕ) → cost p touched ≤ most p) →
    IsBounded (with_stalls net cost) (λ p x. fit p x.local) (λ p x. left p x.local + (most p - x.paid))

-- a processor may take its next turn where it is not stopped, and owes a stall turn or may take its next step
abbrev pub MayTurn : {L : Type 0} → Network L → (ℕ → List ℕ → ℕ) → Type 0
MayTurn {L = L} net cost =
    (s : State (Paying L)) (p : ℕ) (x : Paying L) → slice_get s.locals p ≡ Some x →
    is_enabled (with_stalls net cost) s p
    ≡ (not (net.is_stopped p x.local) && (owes cost p x || is_enabled net (without_stalls s) p))

-- The steps among turns: they are lawful and end where the turns do, each processor has touched what it touched in
-- them, and of its turns those that are no steps are paid.
pub record AreStepsIn {L : Type 0} (net : Network L) (cost : ℕ → List ℕ → ℕ) (s : State (Paying L)) (turns steps : List ℕ) : Type 0 where
  pub lawful : IsLawful net (without_stalls s) steps
  pub ends : end_of net (without_stalls s) steps ≡ without_stalls (end_of (with_stalls net cost) s turns)
  pub touched : (p : ℕ) → touched_by (end_of (with_stalls net cost) s turns) p ≡ touched_by s p ++ touches net (without_stalls s) steps p
  pub paid : (p : ℕ) → count_of p turns + paid_by s p ≡ count_of p steps + paid_by (end_of (with_stalls net cost) s turns) p

abbrev pub StepsOfTurns : {L : Type 0} → Network L → (ℕ → List ℕ → ℕ) → Type 0
StepsOfTurns {L = L} net cost =
    (s : State (Paying L)) (turns : List ℕ) → IsLawful (with_stalls net cost) s turns →
    AreStepsIn net cost s turns (steps_in net cost s turns)

-- where no processor may take a turn, none may take a step
abbrev pub RestsToo : {L : Type 0} → Network L → (ℕ → List ℕ → ℕ) → Type 0
RestsToo {L = L} net cost = (s : State (Paying L)) → IsQuiet (with_stalls net cost) s → IsQuiet net (without_stalls s)

-- the steps of a cycle are those of the processors that are enabled and owe nothing, and are a round of steps
pub record AreFired {L : Type 0} (net : Network L) (cost : ℕ → List ℕ → ℕ) (s : State (Paying L)) : Type 0 where
  pub steps : steps_in net cost s (all_enabled (with_stalls net cost) s) ≡ all_fired net cost s
  pub is_round : IsRound net (without_stalls s) (all_fired net cost s)

abbrev pub CycleFires : {L : Type 0} → Network L → (ℕ → List ℕ → ℕ) → Type 0
CycleFires {L = L} net cost = (s : State (Paying L)) → AreFired net cost s

-- a processor with no more turns in one lawful list of turns has no more steps there
abbrev pub MoreTurnsMoreSteps : {L : Type 0} → Network L → (ℕ → List ℕ → ℕ) → Type 0
MoreTurnsMoreSteps {L = L} net cost =
    (s : State (Paying L)) (h g : List ℕ) (p : ℕ) → IsLawful (with_stalls net cost) s h → IsLawful (with_stalls net cost) s g →
    count_of p g ≤ count_of p h → count_of p (steps_in net cost s g) ≤ count_of p (steps_in net cost s h)

-- no schedule of turns has more steps of a processor in its first rounds than as many cycles have
abbrev pub NoneStepsSooner : {L : Type 0} → Network L → (ℕ → List ℕ → ℕ) → Type 0
NoneStepsSooner {L = L} net cost =
    (s : State (Paying L)) (rounds : List (List ℕ)) (k p : ℕ) → IsSchedule (with_stalls net cost) s rounds →
    count_of p (steps_in net cost s (first_rounds k rounds)) ≤ count_of p (steps_in net cost s (cycles (with_stalls net cost) s k))

-- the processors whose turn in a state pays a stall turn, by rising number
abbrev pub all_stalled : {L : Type 0} → Network L → (ℕ → List ℕ → ℕ) → State (Paying L) → List ℕ
all_stalled net cost s =
    filter (λ p. is_enabled (with_stalls net cost) s p && owes_at cost s p) (range_with_len 0 (length s.locals))

-- a round of steps: no processor stands in it twice, and each is enabled and owes no stall turn in the state before it
pub record IsStepRound {L : Type 0} (net : Network L) (cost : ℕ → List ℕ → ℕ) (s : State (Paying L)) (round : List ℕ) : Type 0 where
  pub once : (p : ℕ) → count_of p round ≤ 1
  pub enabled : (p : ℕ) → 0 < count_of p round → IsTrue (is_enabled net (without_stalls s) p)
  pub paid : (p : ℕ) → 0 < count_of p round → owes_at cost s p ≡ false

-- a schedule of steps: rounds of steps, in each of which those pay that owe a stall turn
abbrev pub IsStepSchedule : {L : Type 0} → Network L → (ℕ → List ℕ → ℕ) → State (Paying L) → List (List ℕ) → Type 0
IsStepSchedule net cost s [] = Unit {0}
IsStepSchedule net cost s (round ∷ rounds) =
    IsStepRound net cost s round × IsStepSchedule net cost (end_of (with_stalls net cost) s (round ++ all_stalled net cost s)) rounds

-- no schedule of steps has more steps of a processor in its first rounds than as many cycles have
abbrev pub NoStepsSooner : {L : Type 0} → Network L → (ℕ → List ℕ → ℕ) → Type 0
NoStepsSooner {L = L} net cost =
    (s : State (Paying L)) (rounds : List (List ℕ)) (k p : ℕ) → IsStepSchedule net cost s rounds →
    count_of p (first_rounds k rounds) ≤ count_of p (steps_in net cost s (cycles (with_stalls net cost) s k))
