-- Numbered processors, each of which waits for at most one other: `next p` is the processor that p waits for,
-- and none where it waits for none. Here the cycles of waits.
use Rattle.std.specs.Prelude.{◌≡◌, ℕ, suc, ◌-◌, ◌≤◌, nat_eq, ◌==◌, Bool, false, Option, Some, None, List, [], ◌∷◌}
use Rattle.std.specs.List.{IsDistinct, Contains}
use Rattle.std.specs.Option.{option_and_then, option_map, is_some}
use Rattle.raw_cycle.specs.Least.{least}
use Rattle.raw_cycle.specs.Chains.{walk, stretch}

-- p waits for the first of these, each of these for the one after it, and the last of all for `first`
abbrev pub WaitsRound : (ℕ → Option ℕ) → ℕ → ℕ → List ℕ → Type 0
WaitsRound next first p [] = next p ≡ Some first
WaitsRound next first p (q ∷ qs) = (next p ≡ Some q) × WaitsRound next first q qs

-- distinct processors, p the first, each of which waits for the next, and the last for the first
pub record IsCycle (next : ℕ → Option ℕ) (p : ℕ) (ps : List ℕ) : Type 0 where
  pub distinct : IsDistinct nat_eq (p ∷ ps)
  pub waits : WaitsRound next p p ps

-- q stands on the cycle of p and these
pub record IsOn (next : ℕ → Option ℕ) (p : ℕ) (ps : List ℕ) (q : ℕ) : Type 0 where
  pub cycle : IsCycle next p ps
  pub member : Contains (p ∷ ps) q

-- the cycle that begins with the least processor that stands on any cycle
pub record IsTheCycle (next : ℕ → Option ℕ) (p : ℕ) (ps : List ℕ) : Type 0 where
  pub cycle : IsCycle next p ps
  pub least : (r : ℕ) (rs : List ℕ) (q : ℕ) → IsOn next r rs q → p ≤ q

-- no list is a cycle
abbrev pub NoCycle : (ℕ → Option ℕ) → Type 0
NoCycle next = (p : ℕ) (ps : List ℕ) → IsCycle next p ps → ⊥

-- p stands on no cycle
abbrev pub OnNone : (ℕ → Option ℕ) → ℕ → Type 0
OnNone next p = (r : ℕ) (rs : List ℕ) → IsOn next r rs p → ⊥

-- the others of a cycle of this length that begins with p, in the order of the waits
abbrev pub others_of : (ℕ → Option ℕ) → ℕ → ℕ → List ℕ
others_of next p count = stretch next (count - 1) (next p)

-- whether this is p
abbrev pub is_at : ℕ → Option ℕ → Bool
is_at p None = false
is_at p (Some q) = q == p

-- whether the waits of p lead back to p with k others between
abbrev pub is_back : (ℕ → Option ℕ) → ℕ → ℕ → Bool
is_back next p k = is_at p (walk next (suc k) (Some p))

-- how many others stand on the cycle of p, of n processors; none where p stands on no cycle
abbrev pub others_count : (ℕ → Option ℕ) → ℕ → ℕ → Option ℕ
others_count next n p = least (is_back next p) n

-- the first and the others, in order, of the cycle that begins with the least processor of n on any cycle
abbrev pub the_cycle : (ℕ → Option ℕ) → ℕ → Option (ℕ × List ℕ)
the_cycle next n =
    option_and_then (λ p. option_map (λ k. (p, stretch next k (next p))) (others_count next n p))
    (least (λ p. is_some (others_count next n p)) n)
