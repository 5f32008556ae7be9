-- Worked rows: the waits of processors 0, 1, ..
use Rattle.std.proofs.Common.{◌≡◌, ℕ, List, [], ◌∷◌, Option, Some, None, refl}
use Rattle.std.specs.Prelude.{◌*◌, nat_lt, slice_index_or}
use Rattle.raw_cycle.specs.Least.{least}
use Rattle.raw_cycle.specs.Chains.{chain_from, last_of, chain_after, walk}
use Rattle.raw_cycle.specs.Cycles.{the_cycle}

abbrev row : List (Option ℕ) → ℕ → Option ℕ
row waits p = slice_index_or waits p None

-- four switches in a ring, each waiting for the next
abbrev ring : List (Option ℕ)
ring = None ∷ None ∷ None ∷ None ∷ Some 5 ∷ Some 7 ∷ Some 4 ∷ Some 6 ∷ []

cycle_of_four : the_cycle (row ring) 8 ≡ Some (4, 5 ∷ 7 ∷ 6 ∷ [])
cycle_of_four = refl

back_after_four : walk (row ring) 4 (Some 7) ≡ Some 7
back_after_four = refl

-- 0 waits for one of a pair, which waits for the other
abbrev pair : List (Option ℕ)
pair = Some 2 ∷ Some 2 ∷ Some 1 ∷ []

cycle_of_two : the_cycle (row pair) 3 ≡ Some (1, 2 ∷ [])
cycle_of_two = refl

-- two cycles: that of the lesser processor
abbrev pairs : List (Option ℕ)
pairs = Some 3 ∷ Some 2 ∷ Some 1 ∷ Some 4 ∷ Some 3 ∷ []

first_of_two : the_cycle (row pairs) 5 ≡ Some (1, 2 ∷ [])
first_of_two = refl

-- all in one line
abbrev line : List (Option ℕ)
line = Some 3 ∷ None ∷ Some 1 ∷ Some 2 ∷ []

no_cycle_in_line : the_cycle (row line) 4 ≡ None
no_cycle_in_line = refl

whole_line : chain_from (row line) 4 0 ≡ 0 ∷ 3 ∷ 2 ∷ 1 ∷ []
whole_line = refl

end_of_line : last_of 0 (chain_after (row line) 4 0) ≡ 1
end_of_line = refl

waits_for_none : chain_from (row line) 4 1 ≡ 1 ∷ []
waits_for_none = refl

walk_past_the_end : walk (row line) 4 (Some 0) ≡ None
walk_past_the_end = refl

nobody : the_cycle (row []) 0 ≡ None
nobody = refl

least_of_two : least (λ p. nat_lt 4 (p * p)) 5 ≡ Some 3
least_of_two = refl

none_below_two : least (λ p. nat_lt 4 (p * p)) 2 ≡ None
none_below_two = refl
