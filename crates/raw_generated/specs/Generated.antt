-- The generated set: words pass the sixteen tiles of a grid of 4 by 4 in a row, and each tile adds its number to them.
use Rattle.std.specs.Prelude.{ℕ, zero, suc, ◌+◌, ◌-◌, ◌*◌, ◌/◌, ◌%◌, ◌^◌, Bool, ◌&&◌, ◌==◌, nat_lt, List, [], ◌∷◌, ◌++◌, length, map, if◌then◌else◌}
use Rattle.std.specs.List.{range_with_len}
use Rattle.raw_model.specs.declared.limits.TheConstants.{DEFAULT_DEPTH}
use Rattle.raw_tile_isa.specs.declared.table.TileOp.TheVariants as tile
use Rattle.raw_tile_isa.specs.Instruction.{Instruction}
use Rattle.raw_tile_isa.specs.Load.{load as load_word}
use Rattle.raw_tile_isa.specs.Made.{immediate, branch, halt}
use Rattle.raw_switch_isa.specs.declared.instruction.SwitchSource.TheVariants.{Input}
use Rattle.raw_switch_isa.specs.Instruction.{SwitchInstruction}
use Rattle.raw_switch_isa.specs.Made as switch
use Rattle.raw_grid.specs.declared.parts.Net.TheVariants.{One}
use Rattle.raw_grid.specs.declared.parts.Side.{Side}
use Rattle.raw_grid.specs.declared.parts.Side.TheVariants.{N, E, S, W}
use Rattle.raw_grid.specs.declared.parts.PortKind.TheVariants.{Source, Sink}
use Rattle.raw_grid.specs.declared.parts.PortPlace.{PortPlace}
use Rattle.raw_grid.specs.Ends.{side_end, tile_end}
use Rattle.raw_grid.specs.Topology.{Topology, west_place, with_west_ports}
use Rattle.raw_model.specs.Program.{ProgramSet, TileProgram, PortProgram}

-- 'source 1 0 0 W'
abbrev pub source_place : PortPlace
source_place = west_place Source 0

-- 'sink 1 0 3 W n', whose number of words stands in its program
abbrev pub sink_place : PortPlace
sink_place = west_place Sink 3

-- the grid of 4 by 4 with the two ports
abbrev pub grid : Topology
grid = with_west_ports 4 4 3

-- the word that follows a word
abbrev pub next_word : ℕ → ℕ
next_word w = (w * 1664525 + 1013904223) % 2 ^ 32

-- so many words, from this one on
unfoldable pub words_from : ℕ → ℕ → List ℕ
words_from zero w = []
words_from (suc k) w = w ∷ words_from k (next_word w)

-- whether the path goes through a row from west to east: it does through rows 0 and 2, and else from east to west
abbrev pub goes_east : ℕ → Bool
goes_east y = y % 2 == 0

-- the column in which the path comes into a row, and the one in which it leaves it
abbrev pub first_column : ℕ → ℕ
first_column y = if goes_east y then 0 else 3

abbrev pub last_column : ℕ → ℕ
last_column y = if goes_east y then 3 else 0

-- the side by which the path enters the tile in column x and row y: from the row above it, or along the row; the first tile from the source
abbrev pub entered_by : ℕ → ℕ → Side
entered_by x y =
    if (x == first_column y) && nat_lt 0 y then N
    else (if goes_east y then W else E)

-- the side by which the path leaves it: to the row below it, or along the row; the last tile to the sink
abbrev pub left_by : ℕ → ℕ → Side
left_by x y =
    if (x == last_column y) && nat_lt y 3 then S
    else (if goes_east y then E else W)

-- 'li $5, n'
unfoldable pub load : ℕ → List Instruction
load n = load_word 5 n

-- the immediate -1
abbrev pub minus_one : ℕ
minus_one = 2 ^ 16 - 1

-- 'bne $5, $0, loop' at a place
abbrev pub branch_back : ℕ → ℕ → Instruction
branch_back place there = branch tile.Bne 5 0 place there

-- what stands behind 'li' from a place on: it sends the number of the words to the switch, and then each word with t added
abbrev pub adding_code : ℕ → ℕ → List Instruction
adding_code place t =
    immediate tile.Addiu 24 5 minus_one
    ∷ immediate tile.Addiu 24 24 t
    ∷ immediate tile.Addiu 5 5 minus_one
    ∷ branch_back (place + 3) (place + 1)
    ∷ halt
    ∷ []

-- the program of tile t
abbrev pub tile_code : ℕ → ℕ → List Instruction
tile_code n t = load n ++ adding_code (length (load n)) t

-- the program of the switch of a tile that is entered by a and left by b:
-- 'move r0, 1:P', 'loop: nop 1:a>P', 'bnezd r0, loop 1:P>b', 'halt'
abbrev pub passing_code : Side → Side → List SwitchInstruction
passing_code a b =
    switch.move_from 0 (Input (tile_end One))
    ∷ switch.with_route switch.nop (tile_end One) (Input (side_end One a))
    ∷ switch.with_route (switch.bnezd 0 1) (side_end One b) (Input (tile_end One))
    ∷ switch.halt
    ∷ []

-- the program of the switch beside tile t
unfoldable pub switch_code : ℕ → List SwitchInstruction
switch_code t = passing_code (entered_by (t % 4) (t / 4)) (left_by (t % 4) (t / 4))

-- what tile t is given
abbrev pub tile_program : ℕ → ℕ → TileProgram
tile_program n t = record { code = tile_code n t; switch = switch_code t; cells = []; misses = [] }

-- what the source and the sink are given
abbrev pub port_programs : ℕ → List PortProgram
port_programs n = record { words = words_from n n; capacity = 0 } ∷ record { words = []; capacity = n } ∷ []

-- the tiles by their numbers
abbrev pub tile_programs : ℕ → List TileProgram
tile_programs n = map (tile_program n) (range_with_len 0 16)

-- the generated set of n words
unfoldable pub generated : ℕ → ProgramSet
generated n = record { topo = grid; limit = 3 * n + 10; depth = DEFAULT_DEPTH; ports = port_programs n; tiles = tile_programs n; shows = [] }
