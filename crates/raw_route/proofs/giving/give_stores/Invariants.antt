use Rattle.std.proofs.Common.{◌≡◌, ℕ, List, [], ◌∷◌, ◌++◌, length, map, take}
use Rattle.raw_codegen.specs.Parts.{Gives}
use Rattle.raw_route.specs.Planned.{Sending, store_part}
use Rattle.raw_route.specs.Counts.{AreCounts}
use Rattle.raw_route.proofs.HaulParts.{first_targets}
use Rattle.raw_route.proofs.giving.give_stores.Given as goal

-- the targets so far have stored the word, and have one word more
abbrev pub invariant-loop-i : goal.invariant-loop-i
invariant-loop-i l = record {
  counts_many : length l.counts.items ≡ length l.initial.counts.items;
  gives : (n : ℕ) (earlier : List Sending) → AreCounts n l.initial.counts.items earlier → Gives n (map (store_part earlier l.haul.net) (take l.i l.haul.to)) l.initial.programs l.programs;
  counted : (n : ℕ) (earlier : List Sending) (word : ℕ) → AreCounts n l.initial.counts.items earlier → AreCounts n l.counts.items (earlier ++ first_targets l.haul word l.i ∷ []);
}
