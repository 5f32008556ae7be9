-- The two ways of one set of a cache, and what a touch does to them.
use Rattle.std.specs.Prelude.{ℕ, Bool, not, ◌&&◌, nat_eq, Some, if◌then◌else◌}
use Rattle.std.specs.Option.{option_eq}
use Rattle.raw_model.specs.Cache.{HeldLines}

-- neither way holds the line
abbrev pub is_absent : HeldLines → ℕ → Bool
is_absent held line = not (option_eq nat_eq held.first (Some line)) && not (option_eq nat_eq held.second (Some line))

-- the ways after a touch of a line: it is first, and what was first is second, unless that is the line
abbrev pub after_touch : HeldLines → ℕ → HeldLines
after_touch held line = if option_eq nat_eq held.first (Some line) then held else record { first = Some line; second = held.first }
