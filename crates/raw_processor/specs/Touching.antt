-- What a step of a tile costs.
use Rattle.std.specs.Prelude.{ℕ, ◌==◌, List, slice_index, if◌then◌else◌}

-- the stall turns that a tile owes after a step, by its stream and how often it missed before and after: the
-- number of the miss, if the step missed
abbrev pub owed_after : List ℕ → ℕ → ℕ → ℕ
owed_after stream before after = if before == after then 0 else slice_index stream before
