-- How many words have been sent to each tile.
use Rattle.std.specs.Prelude.{◌≡◌, ℕ, ◌<◌, ◌≤◌, List, map, length}
use Rattle.std.specs.List.{range_with_len}
use Rattle.raw_switch_isa.specs.declared.limits.TheConstants.{MAX_SWITCH_CODE}
use Rattle.raw_route.specs.Planned.{Sending, words_to}

-- these are the numbers of words to each of n tiles
abbrev pub AreCounts : ℕ → List ℕ → List Sending → Type 0
AreCounts n counts earlier = counts ≡ map (λ t. length (words_to t earlier)) (range_with_len 0 n)

-- to some tile there are as many words as a switch has instructions
abbrev pub HasManyWords : ℕ → List Sending → Type 0
HasManyWords n earlier = (t : ℕ) × (t < n) × (MAX_SWITCH_CODE ≤ length (words_to t earlier))
