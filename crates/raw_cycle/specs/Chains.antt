-- Numbered processors, each of which waits for at most one other: `next p` is the processor that p waits for,
-- and none where it waits for none. Here the chains of waits.
use Rattle.std.specs.Prelude.{◌≡◌, ℕ, zero, suc, ◌<◌, Option, Some, None, List, [], ◌∷◌}
use Rattle.std.specs.Option.{option_and_then}

-- each that is waited for is one of the n processors
abbrev pub IsWithin : (ℕ → Option ℕ) → ℕ → Type 0
IsWithin next n = (p q : ℕ) → next p ≡ Some q → q < n

-- p waits for the first of these, each of these for the one after it, and the last of all for none
abbrev pub WaitsAlong : (ℕ → Option ℕ) → ℕ → List ℕ → Type 0
WaitsAlong next p [] = next p ≡ None
WaitsAlong next p (q ∷ qs) = (next p ≡ Some q) × WaitsAlong next q qs

-- where k waits lead, none where one on the way waits for none
abbrev pub walk : (ℕ → Option ℕ) → ℕ → Option ℕ → Option ℕ
walk next zero from = from
walk next (suc k) from = walk next k (option_and_then next from)

-- at most k processors, each the one that the one before it waits for
abbrev pub stretch : (ℕ → Option ℕ) → ℕ → Option ℕ → List ℕ
stretch next zero from = []
stretch next (suc k) None = []
stretch next (suc k) (Some p) = p ∷ stretch next k (next p)

-- those after p, of n processors, up to and with the first that waits for none
abbrev pub chain_after : (ℕ → Option ℕ) → ℕ → ℕ → List ℕ
chain_after next n p = stretch next n (next p)

-- p and those after it, of n processors, up to and with the first that waits for none
abbrev pub chain_from : (ℕ → Option ℕ) → ℕ → ℕ → List ℕ
chain_from next n p = p ∷ chain_after next n p

-- the last of p and these
abbrev pub last_of : ℕ → List ℕ → ℕ
last_of p [] = p
last_of p (q ∷ qs) = last_of q qs
