-- Walks, step by step.
use Rattle.std.specs.Prelude.{◌≡◌, ℕ, zero, suc, ◌+◌, ◌-◌, nat_lt, slice_get, Some, if◌then◌else◌}
use Rattle.raw_grid.specs.declared.parts.Dir.{Dir}
use Rattle.raw_grid.specs.declared.parts.Dir.TheVariants.{N, E, S, W, P}
use Rattle.raw_route.specs.Hauls.{Haulage, Place, place_of}

-- where a walk to a place goes from another one: along the row to the column of its target, and then along that column; at its
-- target to the tile there
abbrev pub heading : Place → Place → Dir
heading at to =
    if nat_lt at.x to.x then E
    else (if nat_lt to.x at.x then W
    else (if nat_lt at.y to.y then S
    else (if nat_lt to.y at.y then N else P)))

-- the place beside another one in a direction
abbrev pub beyond : Dir → Place → Place
beyond N at = record { x = at.x; y = at.y - 1 }
beyond E at = record { x = at.x + 1; y = at.y }
beyond S at = record { x = at.x; y = at.y + 1 }
beyond W at = record { x = at.x - 1; y = at.y }
beyond P at = at

-- the place to which a walk has come after so many links; from its target it goes no further
abbrev pub walked : Place → Place → ℕ → Place
walked from to zero = from
walked from to (suc k) = beyond (heading (walked from to k) to) (walked from to k)

-- a walk comes to a place
abbrev pub IsOn : Place → Place → Place → Type 0
IsOn from to at = (k : ℕ) × (walked from to k ≡ at)

-- a walk from the origin of a haul to one of its targets comes to a tile
abbrev pub IsOnTree : ℕ → Haulage → ℕ → Type 0
IsOnTree cols haul tile = (i : ℕ) × (to : ℕ) × (slice_get haul.to i ≡ Some to) × IsOn (place_of cols haul.from) (place_of cols to) (place_of cols tile)
