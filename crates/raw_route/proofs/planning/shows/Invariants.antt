use Rattle.std.proofs.Common.{◌≡◌, ℕ, List}
use Rattle.std.specs.List.{filter_map, range_with_len}
use Rattle.raw_route.specs.Planned.{Sending, show_of}
use Rattle.raw_route.specs.Counts.{AreCounts}
use Rattle.raw_route.proofs.planning.shows.Given as goal

-- the words of the tiles so far are shown
abbrev pub invariant-loop-tile : goal.invariant-loop-tile
invariant-loop-tile l = (n : ℕ) (xs : List Sending) → AreCounts n l.counts xs → l.shows.items ≡ filter_map (show_of xs) (range_with_len 0 l.tile)
