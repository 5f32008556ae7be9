-- What is claimed of networks. Each word says one law of one network; `src/laws.rt` claims it of all.
use Rattle.std.specs.Prelude.{◌≡◌, ◌≢◌, ◌↔◌, ◌⊎◌, ℕ, suc, ◌+◌, ◌<◌, ◌≤◌, false, ◌==◌, Some, None, List, [], ◌∷◌, ◌++◌, length, slice_get, IsTrue, if◌then◌else◌}
use Rattle.std.specs.List.{flat_map, filter, All}
use Rattle.raw_network.specs.Network.{Network, State, values_on, count_of, is_enabled, step, event_of}
use Rattle.raw_network.specs.Runs.{IsLawful, end_of, events, events_of, kth, passed, touches, IsQuiet}
use Rattle.raw_network.specs.Waits.{first_wait}

-- two different processors that are both enabled
pub record AreEnabled {L : Type 0} (net : Network L) (s : State L) (p q : ℕ) : Type 0 where
  pub differ : p ≢ q
  pub first : IsTrue (is_enabled net s p)
  pub second : IsTrue (is_enabled net s q)

-- The diamond: of two different processors that are enabled each still is after the step of the other;
abbrev pub StillEnabled : {L : Type 0} → Network L → Type 0
StillEnabled {L = L} net =
    (s : State L) (p q : ℕ) → AreEnabled net s p q →
    IsTrue (is_enabled net (step net s q) p) × IsTrue (is_enabled net (step net s p) q)

-- both orders of the two steps lead to the same state;
abbrev pub SameState : {L : Type 0} → Network L → Type 0
SameState {L = L} net =
    (s : State L) (p q : ℕ) → AreEnabled net s p q → step net (step net s p) q ≡ step net (step net s q) p

-- and each of the two steps takes, sends and touches the same in both orders, and leaves its processor alike.
abbrev pub SameEvents : {L : Type 0} → Network L → Type 0
SameEvents {L = L} net =
    (s : State L) (p q : ℕ) → AreEnabled net s p q →
    (event_of net (step net s q) p ≡ event_of net s p) × (event_of net (step net s p) q ≡ event_of net s q)

-- the k-th local state of a processor is its local state after the entries that hold its first k steps
abbrev pub KthIsThere : {L : Type 0} → Network L → Type 0
KthIsThere {L = L} net =
    (s : State L) (front rest : List ℕ) (p : ℕ) → IsLawful net s (front ++ rest) →
    kth net s (front ++ rest) p (count_of p front) ≡ slice_get (end_of net s front).locals p

-- each step of a processor did one thing
abbrev pub OneEventEach : {L : Type 0} → Network L → Type 0
OneEventEach {L = L} net = (s : State L) (h : List ℕ) (p : ℕ) → length (events_of net s h p) ≡ count_of p h

-- one list of steps and then another: each is lawful where the whole is, from the state where it begins, and the whole
-- where both are; it ends where the second one does, and did what the two did
pub record AreInTurn {L : Type 0} (net : Network L) (s : State L) (front rest : List ℕ) : Type 0 where
  pub lawful : IsLawful net s (front ++ rest) ↔ (IsLawful net s front × IsLawful net (end_of net s front) rest)
  pub ends : end_of net s (front ++ rest) ≡ end_of net (end_of net s front) rest
  pub did : events net s (front ++ rest) ≡ events net s front ++ events net (end_of net s front) rest
  pub did_by : (p : ℕ) → events_of net s (front ++ rest) p ≡ events_of net s front p ++ events_of net (end_of net s front) rest p

abbrev pub OneAfterAnother : {L : Type 0} → Network L → Type 0
OneAfterAnother {L = L} net = (s : State L) (front rest : List ℕ) → AreInTurn net s front rest

-- a lawful list of steps that ends in a quiet state
pub record ComesToRest {L : Type 0} (net : Network L) (s : State L) (h : List ℕ) : Type 0 where
  pub lawful : IsLawful net s h
  pub quiet : IsQuiet net (end_of net s h)

-- (a) no processor has more steps in a lawful list than in one that comes to rest
abbrev pub AtMostAsOften : {L : Type 0} → Network L → Type 0
AtMostAsOften {L = L} net =
    (s : State L) (h g : List ℕ) → ComesToRest net s h → IsLawful net s g → (p : ℕ) → count_of p g ≤ count_of p h

-- the k-th local state of p is the same in both lists, for each k up to the smaller number of its
-- steps, and so is what its k-th step did, which stands at k - 1
pub record AreSameSteps {L : Type 0} (net : Network L) (s : State L) (h g : List ℕ) (p : ℕ) : Type 0 where
  pub locals : (k : ℕ) → k ≤ count_of p h → k ≤ count_of p g → kth net s g p k ≡ kth net s h p k
  pub events : (i : ℕ) → i < count_of p h → i < count_of p g →
      slice_get (events_of net s g p) i ≡ slice_get (events_of net s h p) i

-- (b) what a processor does at its k-th step is the same in all lawful lists that have that step
abbrev pub SameSteps : {L : Type 0} → Network L → Type 0
SameSteps {L = L} net =
    (s : State L) (h g : List ℕ) → IsLawful net s h → IsLawful net s g → (p : ℕ) → AreSameSteps net s h g p

-- the one list begins the other
abbrev pub IsPrefix : {A : Type 0} → List A → List A → Type 0
IsPrefix {A = A} front whole = (rest : List A) × (front ++ rest ≡ whole)

-- (c) what passed on a wire begins what passed there in a list that comes to rest
abbrev pub PassedPrefix : {L : Type 0} → Network L → Type 0
PassedPrefix {L = L} net =
    (s : State L) (h g : List ℕ) → ComesToRest net s h → IsLawful net s g → (w : ℕ) →
    IsPrefix (passed net s g w) (passed net s h w)

-- two lists of steps end alike, sent alike on each wire and touched alike at each processor
pub record AreSameRest {L : Type 0} (net : Network L) (s : State L) (h g : List ℕ) : Type 0 where
  pub ends : end_of net s g ≡ end_of net s h
  pub passed_on : (w : ℕ) → passed net s g w ≡ passed net s h w
  pub touched_by : (p : ℕ) → touches net s g p ≡ touches net s h p

-- (d) all lawful lists that come to rest are alike
abbrev pub SameRest : {L : Type 0} → Network L → Type 0
SameRest {L = L} net = (s : State L) (h g : List ℕ) → ComesToRest net s h → ComesToRest net s g → AreSameRest net s h g

-- (e) two lawful lists in which each processor has as many steps end in the same state
abbrev pub SameEnd : {L : Type 0} → Network L → Type 0
SameEnd {L = L} net =
    (s : State L) (h g : List ℕ) → IsLawful net s h → IsLawful net s g → ((p : ℕ) → count_of p g ≡ count_of p h) →
    end_of net s g ≡ end_of net s h

-- Of h, the entries `front` come first, then p, then `rest`. This entry is, for p, one more than all that
-- g has of p, and none of the entries of `front` is so for its processor.
pub record IsFirstBeyond (h g front : List ℕ) (p : ℕ) (rest : List ℕ) : Type 0 where
  pub whole : h ≡ front ++ p ∷ rest
  pub beyond : count_of p g < count_of p (front ++ p ∷ [])
  pub before : (q : ℕ) → count_of q front ≤ count_of q g

-- where some processor has more steps in h than in g, there is such an entry
abbrev pub SomeIsBeyond : List ℕ → List ℕ → Type 0
SomeIsBeyond h g =
    (p : ℕ) → count_of p g < count_of p h →
    (front : List ℕ) × (q : ℕ) × (rest : List ℕ) × IsFirstBeyond h g front q rest

-- (f) the processor of the first entry of h that goes beyond the steps of g is enabled in the end of g
abbrev pub NextIsEnabled : {L : Type 0} → Network L → Type 0
NextIsEnabled {L = L} net =
    (s : State L) (h g front : List ℕ) (p : ℕ) (rest : List ℕ) → IsLawful net s h → IsLawful net s g →
    IsFirstBeyond h g front p rest → IsTrue (is_enabled net (end_of net s g) p)

-- what is left to do, over these local states of the processors from p on
abbrev pub total_from : {L : Type 0} → (ℕ → L → ℕ) → ℕ → List L → ℕ
total_from left p [] = 0
total_from left p (l ∷ locals) = left p l + total_from left (suc p) locals

-- what is left to do, over all processors
unfoldable pub total : {L : Type 0} → (ℕ → L → ℕ) → State L → ℕ
total left s = total_from left 0 s.locals

-- each local state fits its processor
abbrev pub AllFit : {L : Type 0} → (ℕ → L → Type 0) → State L → Type 0
AllFit {L = L} fit s = (p : ℕ) (l : L) → slice_get s.locals p ≡ Some l → fit p l

-- each local state fits its processor, and each value on a wire is fine
pub record AreFit {L : Type 0} (fit : ℕ → L → Type 0) (fine : ℕ → Type 0) (s : State L) : Type 0 where
  pub locals : AllFit fit s
  pub values : (w : ℕ) → All fine (values_on s.wires w)

-- what fits, and is fine, is so after each lawful list
abbrev pub StaysFit : {L : Type 0} → Network L → (ℕ → L → Type 0) → (ℕ → Type 0) → Type 0
StaysFit {L = L} net fit fine =
    (s : State L) (h : List ℕ) → AreFit fit fine s → IsLawful net s h → AreFit fit fine (end_of net s h)

-- each step of a lawful list leaves less to do
abbrev pub NoLonger : {L : Type 0} → Network L → (ℕ → L → Type 0) → (ℕ → L → ℕ) → Type 0
NoLonger {L = L} net fit left =
    (s : State L) (h : List ℕ) → AllFit fit s → IsLawful net s h → length h + total left (end_of net s h) ≤ total left s

-- from each state some lawful list comes to rest
abbrev pub SomeRest : {L : Type 0} → Network L → (ℕ → L → Type 0) → Type 0
SomeRest {L = L} net fit = (s : State L) → AllFit fit s → (h : List ℕ) × ComesToRest net s h

-- the values taken from wire w, of the wires that a step took from and the values that it took, in order
abbrev pub got_on : ℕ → List ℕ → List ℕ → List ℕ
got_on w [] values = []
got_on w (u ∷ us) [] = []
got_on w (u ∷ us) (value ∷ values) = if u == w then value ∷ got_on w us values else got_on w us values

-- the values that the steps took from a wire, in order
abbrev pub received : {L : Type 0} → Network L → State L → List ℕ → ℕ → List ℕ
received net s h w = flat_map (λ e. got_on w e.from e.took) (events net s h)

-- a wire is a queue: what was on it and then what was sent there is what was taken from it and then what is on it
abbrev pub IsQueue : {L : Type 0} → Network L → Type 0
IsQueue {L = L} net =
    (s : State L) (h : List ℕ) (w : ℕ) → IsLawful net s h → w < length s.wires →
    values_on s.wires w ++ passed net s h w ≡ received net s h w ++ values_on (end_of net s h).wires w

-- no wire holds more than the most
abbrev pub IsWithinDepth : {L : Type 0} → Network L → State L → Type 0
IsWithinDepth net s = (w : ℕ) → length (values_on s.wires w) ≤ net.depth

-- no wire ever holds more than the most
abbrev pub KeepsDepth : {L : Type 0} → Network L → Type 0
KeepsDepth {L = L} net =
    (s : State L) (h : List ℕ) → IsLawful net s h → IsWithinDepth net s → IsWithinDepth net (end_of net s h)

-- a processor that is there and not stopped has no first wait exactly where it is enabled
abbrev pub NoneWhereEnabled : {L : Type 0} → Network L → (ℕ → List ℕ) → (ℕ → List ℕ) → Type 0
NoneWhereEnabled {L = L} net inputs outputs =
    (s : State L) (p : ℕ) (l : L) → slice_get s.locals p ≡ Some l → net.is_stopped p l ≡ false →
    (first_wait net inputs outputs s p ≡ None) ↔ IsTrue (is_enabled net s p)

-- the wire is an input that holds fewer values than the next row takes from it, or an output that the
-- row may send to and that is full
abbrev pub IsUnmet : {L : Type 0} → Network L → (ℕ → List ℕ) → (ℕ → List ℕ) → State L → ℕ → L → ℕ → Type 0
IsUnmet net inputs outputs s p l w =
    ((0 < count_of w (inputs p)) × (length (values_on s.wires w) < count_of w (net.takes p l)))
    ⊎ ((0 < count_of w (outputs p)) × (0 < count_of w (net.sends p l)) × (net.depth ≤ length (values_on s.wires w)))

-- a first wait is for a wire whose need is unmet
abbrev pub WaitIsUnmet : {L : Type 0} → Network L → (ℕ → List ℕ) → (ℕ → List ℕ) → Type 0
WaitIsUnmet {L = L} net inputs outputs =
    (s : State L) (p : ℕ) (l : L) (w : ℕ) → slice_get s.locals p ≡ Some l →
    first_wait net inputs outputs s p ≡ Some w → IsUnmet net inputs outputs s p l w

-- the entries of a list that are of worker w, where `own` says whose each processor is
abbrev pub of_worker : (ℕ → ℕ) → ℕ → List ℕ → List ℕ
of_worker own w steps = filter (λ p. own p == w) steps

-- What is left of the list h once processor p steps first: `others` is lawful from there and ends where h does. Of
-- p's worker it has the entries `rest`, and of each other worker those of h.
pub record IsRest {L : Type 0} (net : Network L) (own : ℕ → ℕ) (s : State L) (h : List ℕ) (p : ℕ) (rest others : List ℕ) : Type 0 where
  pub lawful : IsLawful net (step net s p) others
  pub ends : end_of net (step net s p) others ≡ end_of net s h
  pub own_entries : of_worker own (own p) others ≡ rest
  pub other_entries : (w : ℕ) → own p ≢ w → of_worker own w others ≡ of_worker own w h

-- an enabled processor that comes first among its worker's entries of a lawful list may step first
abbrev pub OneMayBeTaken : {L : Type 0} → Network L → Type 0
OneMayBeTaken {L = L} net =
    (own : ℕ → ℕ) (s : State L) (p : ℕ) (h rest : List ℕ) → IsLawful net s h → IsTrue (is_enabled net s p) →
    of_worker own (own p) h ≡ p ∷ rest → (others : List ℕ) × IsRest net own s h p rest others

-- and the first entry of the whole list is one that may
abbrev pub FirstMayBeTaken : {L : Type 0} → Network L → Type 0
FirstMayBeTaken {L = L} net =
    (own : ℕ → ℕ) (s : State L) (p : ℕ) (h : List ℕ) → IsLawful net s (p ∷ h) →
    IsTrue (is_enabled net s p) × (of_worker own (own p) (p ∷ h) ≡ p ∷ of_worker own (own p) h)

-- two lawful lists in which each worker has the same entries end in the same state
abbrev pub SameLogsSameEnd : {L : Type 0} → Network L → Type 0
SameLogsSameEnd {L = L} net =
    (own : ℕ → ℕ) (s : State L) (h g : List ℕ) → IsLawful net s h → IsLawful net s g →
    ((p : ℕ) → of_worker own (own p) g ≡ of_worker own (own p) h) → end_of net s g ≡ end_of net s h
