-- Lists of steps: each entry is the number of the processor that takes the step.
use Rattle.std.specs.Prelude.{◌≡◌, ℕ, zero, suc, Bool, false, ◌==◌, Option, List, [], ◌∷◌, slice_get, IsTrue, if◌then◌else◌}
use Rattle.std.specs.List.{flat_map, filter_map}
use Rattle.std.specs.Option.{option_and_then}
use Rattle.raw_network.specs.Network.{Network, State, Event, Sent, is_enabled, step, event_of}

-- each step is of a processor that is enabled when its turn comes
abbrev pub IsLawful : {L : Type 0} → Network L → State L → List ℕ → Type 0
IsLawful net s [] = Unit {0}
IsLawful net s (p ∷ ps) = IsTrue (is_enabled net s p) × IsLawful net (step net s p) ps

-- the state after the steps
abbrev pub end_of : {L : Type 0} → Network L → State L → List ℕ → State L
end_of net s [] = s
end_of net s (p ∷ ps) = end_of net (step net s p) ps

-- what the steps did, in order
abbrev pub events : {L : Type 0} → Network L → State L → List ℕ → List (Event L)
events net s [] = []
events net s (p ∷ ps) = event_of net s p ∷ events net (step net s p) ps

-- a list with one more entry in front, where the test holds
abbrev pub with_first : {A : Type 0} → Bool → A → List A → List A
with_first b x xs = if b then x ∷ xs else xs

-- what the steps of one processor did, in order
abbrev pub events_of : {L : Type 0} → Network L → State L → List ℕ → ℕ → List (Event L)
events_of net s [] p = []
events_of net s (q ∷ ps) p = with_first (q == p) (event_of net s q) (events_of net (step net s q) ps p)

-- the local state of a processor right after its k-th step, and its first one for k = 0
abbrev pub kth : {L : Type 0} → Network L → State L → List ℕ → ℕ → ℕ → Option L
kth net s ps p zero = slice_get s.locals p
kth net s ps p (suc k) = option_and_then (λ e. e.after) (slice_get (events_of net s ps p) k)

-- the values among these for one wire
abbrev pub sent_on : ℕ → List Sent → List ℕ
sent_on w [] = []
sent_on w (m ∷ ms) = if m.wire == w then m.value ∷ sent_on w ms else sent_on w ms

-- the values that the steps sent on a wire, in order
abbrev pub passed : {L : Type 0} → Network L → State L → List ℕ → ℕ → List ℕ
passed net s ps w = flat_map (λ e. sent_on w e.sent) (events net s ps)

-- the addresses that the steps of one processor touched, in order
abbrev pub touches : {L : Type 0} → Network L → State L → List ℕ → ℕ → List ℕ
touches net s ps p = filter_map (λ e. e.touched) (events_of net s ps p)

-- no processor is enabled
abbrev pub IsQuiet : {L : Type 0} → Network L → State L → Type 0
IsQuiet net s = (p : ℕ) → is_enabled net s p ≡ false
