-- The text of a set: one spelling of each.
use Rattle.std.specs.Prelude.{ℕ, ◌+◌, ◌-◌, ◌*◌, ◌/◌, ◌%◌, ◌==◌, List, [], ◌∷◌, ◌++◌, length, map, take, drop, codes, if◌then◌else◌}
use Rattle.std.specs.Fmt.{decimal}
use Rattle.std.specs.List.{flat_map, enumerate_from, range_with_len}
use Rattle.raw_model.specs.declared.limits.TheConstants.{DEFAULT_DEPTH}
use Rattle.raw_text.specs.Lines.{written_lines, joined}
use Rattle.raw_text.specs.Number.{hex_digits}
use Rattle.raw_tile_asm.specs.Listing.{listed_lines}
use Rattle.raw_switch_asm.specs.Listing.{line_text}
use Rattle.raw_grid.specs.declared.parts.PortKind.{PortKind}
use Rattle.raw_grid.specs.declared.parts.PortKind.TheVariants.{Source, Sink}
use Rattle.raw_grid.specs.declared.parts.PortPlace.{PortPlace}
use Rattle.raw_grid.specs.Names.{net_text, side_text}
use Rattle.raw_grid.specs.Topology.{Topology}
use Rattle.raw_model.specs.declared.program.DataWord.{DataWord}
use Rattle.raw_model.specs.declared.program.Show.{Show}
use Rattle.raw_model.specs.Program.{ProgramSet, TileProgram, PortProgram}
use Rattle.raw_set_text.specs.declared.word.Word.{Word}
use Rattle.raw_set_text.specs.declared.word.Word.TheVariants as word
use Rattle.raw_set_text.specs.Forms.{word_name}

-- the pieces of a list, each of so many elements but the last, which may be shorter
abbrev pub pieces : {A : Type 0} → ℕ → List A → List (List A)
pieces size xs = map (λ n. take size (drop (n * size) xs)) (range_with_len 0 ((length xs + size - 1) / size))

-- each element with that of another list at its place
abbrev pub paired : {A B : Type 0} → List A → List B → List (A × B)
paired (x ∷ xs) (y ∷ ys) = (x, y) ∷ paired xs ys
paired _ _ = []

-- the line of a word with these operands, with one blank between each two
abbrev pub line_of : Word → List (List ℕ) → List ℕ
line_of word operands = joined (codes " ") (word_name word ∷ operands)

-- operands, each behind a blank
abbrev pub spaced : List (List ℕ) → List ℕ
spaced operands = flat_map (λ operand. codes " " ++ operand) operands

-- a word or an address in eight hexadecimal digits
abbrev pub hex_text : ℕ → List ℕ
hex_text n = codes "0x" ++ hex_digits 8 n

-- the edge at which a port stands: network, column, row and side
abbrev pub edge_texts : PortPlace → List (List ℕ)
edge_texts place = net_text place.net ∷ decimal place.x ∷ decimal place.y ∷ side_text place.side ∷ []

-- the column and the row of tile t, where there are so many columns
abbrev pub position_texts : ℕ → ℕ → List (List ℕ)
position_texts columns t = decimal (t % columns) ∷ decimal (t / columns) ∷ []

-- the line that declares a port of this kind; a source has no capacity
abbrev pub port_line_of : PortKind → PortPlace → ℕ → List ℕ
port_line_of Source place capacity = line_of word.Source (edge_texts place)
port_line_of Sink place capacity = line_of word.Sink (edge_texts place ++ decimal capacity ∷ [])

abbrev pub port_line : PortPlace × PortProgram → List ℕ
port_line port = port_line_of port.0.kind port.0 port.1.capacity

-- a line of words for a source
abbrev pub feed_line : PortPlace → List ℕ → List ℕ
feed_line place words = line_of word.Feed (edge_texts place ++ map hex_text words)

-- the lines of the words at a place, eight on each
abbrev pub words_lines : PortPlace → List ℕ → List (List ℕ)
words_lines place words = map (feed_line place) (pieces 8 words)

-- the lines of a source's words
abbrev pub feed_lines : PortPlace × PortProgram → List (List ℕ)
feed_lines port = words_lines port.0 port.1.words

-- the line of a word in the memory of tile t
abbrev pub data_line : ℕ → ℕ → DataWord → List ℕ
data_line columns t cell = line_of word.Data (position_texts columns t ++ hex_text cell.address ∷ hex_text cell.word ∷ [])

-- a line of numbers of the miss stream of tile t
abbrev pub turns_line : ℕ → ℕ → List ℕ → List ℕ
turns_line columns t turns = line_of word.Misses (position_texts columns t ++ map decimal turns)

-- the lines of a miss stream, sixteen numbers on each
abbrev pub misses_lines : ℕ → ℕ → List ℕ → List (List ℕ)
misses_lines columns t misses = map (turns_line columns t) (pieces 16 misses)

-- what tile t is given beside programs
abbrev pub memory_lines : ℕ → ℕ × TileProgram → List (List ℕ)
memory_lines columns tile = map (data_line columns tile.0) tile.1.cells ++ misses_lines columns tile.0 tile.1.misses

abbrev pub show_line : ℕ → Show → List ℕ
show_line columns show = line_of word.Show (position_texts columns show.tile ++ hex_text show.address ∷ decimal show.words ∷ [])

-- a section of tile t with these lines, where there are any
abbrev pub section_lines : Word → ℕ → ℕ → List (List ℕ) → List (List ℕ)
section_lines word columns t [] = []
section_lines word columns t (line ∷ lines) = line_of word (position_texts columns t) ∷ (line ∷ lines) ++ codes "end" ∷ []

-- the programs of tile t and of its switch
abbrev pub program_lines : ℕ → ℕ × TileProgram → List (List ℕ)
program_lines columns tile =
    section_lines word.Tile columns tile.0 (listed_lines 0 tile.1.code) ++ section_lines word.Switch columns tile.0 (map line_text tile.1.switch)

-- how many values a wire holds at most, where it is not the depth of a set that does not say it
abbrev pub depth_lines : ℕ → List (List ℕ)
depth_lines depth = if depth == DEFAULT_DEPTH then [] else line_of word.Depth (decimal depth ∷ []) ∷ []

-- the ports with their places
abbrev pub placed_ports : ProgramSet → List (PortPlace × PortProgram)
placed_ports set = paired set.topo.places set.ports

-- the lines of the words of all sources
abbrev pub source_lines : ProgramSet → List (List ℕ)
source_lines set = flat_map feed_lines (placed_ports set)

-- the first two lines
abbrev pub first_lines : Topology → ℕ → List (List ℕ)
first_lines topo limit = line_of word.Grid (decimal topo.cols ∷ decimal topo.rows ∷ []) ∷ line_of word.Limit (decimal limit ∷ []) ∷ []

-- the lines before the sections
abbrev pub front_lines : ProgramSet → List (List ℕ)
front_lines set =
    first_lines set.topo set.limit
    ++ (depth_lines set.depth
    ++ (map port_line (placed_ports set)
    ++ (source_lines set
    ++ (flat_map (memory_lines set.topo.cols) (enumerate_from 0 set.tiles)
    ++ map (show_line set.topo.cols) set.shows))))

-- the lines of a set
abbrev pub set_lines : ProgramSet → List (List ℕ)
set_lines set = front_lines set ++ flat_map (program_lines set.topo.cols) (enumerate_from 0 set.tiles)

-- the listing of a set
unfoldable pub listing : ProgramSet → List ℕ
listing set = written_lines (set_lines set)
