-- When two terms are seen to be the same.
use Rattle.std.specs.Prelude.{ℕ, Bool, ◌==◌, ◌||◌, List}
use Rattle.raw_flow.specs.declared.node.Node.{Node}
use Rattle.raw_term.specs.Sums.{is_same_sum}
use Rattle.raw_term.specs.Exclusives.{is_same_exclusive_or}

-- they have one number, or are the same sum, or the same exclusive or
abbrev pub is_same : List Node → ℕ → ℕ → Bool
is_same nodes a b = (a == b) || (is_same_sum nodes a b || is_same_exclusive_or nodes a b)
