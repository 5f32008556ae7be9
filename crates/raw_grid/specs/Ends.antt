-- The ends of processors by their indices.
use Rattle.std.specs.Prelude.{ℕ, ◌+◌, List, [], ◌∷◌}
use Rattle.raw_grid.specs.declared.parts.Net.{Net}
use Rattle.raw_grid.specs.declared.parts.Net.TheVariants.{One, Two}
use Rattle.raw_grid.specs.declared.parts.Side.{Side}
use Rattle.raw_grid.specs.declared.parts.Side.TheVariants as side
use Rattle.raw_grid.specs.declared.parts.Dir.{Dir}
use Rattle.raw_grid.specs.declared.parts.Dir.TheVariants.{N, E, S, W, P}

-- the place of a direction in N, E, S, W, P
abbrev pub dir_index : Dir → ℕ
dir_index N = 0
dir_index E = 1
dir_index S = 2
dir_index W = 3
dir_index P = 4

-- the index of an end: N, E, S, W, P of network 1 are 0 to 4, and those of network 2 are 5 to 9
abbrev pub end_index : Net → Dir → ℕ
end_index One dir = dir_index dir
end_index Two dir = 5 + dir_index dir

-- the sides in the order in which links are numbered
abbrev pub all_sides : List Side
all_sides = side.N ∷ (side.E ∷ (side.S ∷ (side.W ∷ [])))

-- a side as a direction
abbrev pub side_dir : Side → Dir
side_dir side.N = N
side_dir side.E = E
side_dir side.S = S
side_dir side.W = W

-- the side on which the neighbour at this side sees the tile
abbrev pub opposite : Side → Side
opposite side.N = side.S
opposite side.E = side.W
opposite side.S = side.N
opposite side.W = side.E

-- the index of the end at a side
abbrev pub side_end : Net → Side → ℕ
side_end net s = end_index net (side_dir s)

-- the index of the end P of a network
abbrev pub tile_end : Net → ℕ
tile_end net = end_index net P
