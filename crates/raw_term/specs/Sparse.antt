-- Words by their places, as a long list of which most are 0.
use Rattle.std.specs.Prelude.{◌≡◌, ◌<◌, ◌≤◌, ℕ, List, map, slice_index}
use Rattle.std.specs.List.{range_with_len}
use Rattle.std.specs.Map.{count_at}
use Rattle.std.specs.Ordering.{nat_cmp}
use Rattle.std.specs.Option.{IsSome}
use Rattle.std.specs.BTreeMap.{BTreeMap, get}

-- the first n words; a place that has none stands for 0
unfoldable pub words_to : ℕ → BTreeMap ℕ ℕ → List ℕ
words_to n words = map (count_at (get nat_cmp words)) (range_with_len 0 n)

-- each place that has a word is below n
abbrev pub AreBelow : ℕ → BTreeMap ℕ ℕ → Type 0
AreBelow n words = (i : ℕ) → IsSome (get nat_cmp words i) → i < n

-- the words from place n on are 0
abbrev pub AreZeros : ℕ → List ℕ → Type 0
AreZeros n xs = (i : ℕ) → n ≤ i → slice_index xs i ≡ 0
