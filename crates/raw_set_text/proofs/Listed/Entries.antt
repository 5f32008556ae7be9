-- The lines of a set, entry by entry.
use Rattle.std.proofs.Common.{ℕ, ◌%◌, ◌/◌, List, [], ◌∷◌, ◌++◌, map}
use Rattle.std.specs.Prelude.{codes, ◌==◌, if◌then◌else◌}
use Rattle.std.specs.Fmt.{decimal}
use Rattle.std.specs.List.{flat_map, enumerate_from}
use Rattle.raw_model.specs.declared.limits.TheConstants.{DEFAULT_DEPTH}
use Rattle.raw_tile_isa.specs.Instruction.{Instruction}
use Rattle.raw_switch_isa.specs.Instruction.{SwitchInstruction}
use Rattle.raw_tile_asm.specs.Listing.{listed_lines}
use Rattle.raw_switch_asm.specs.Listing.{line_text}
use Rattle.raw_grid.specs.declared.parts.PortKind.{PortKind}
use Rattle.raw_grid.specs.declared.parts.PortKind.TheVariants as kind
use Rattle.raw_grid.specs.declared.parts.PortPlace.{PortPlace}
use Rattle.raw_model.specs.declared.program.DataWord.{DataWord}
use Rattle.raw_model.specs.declared.program.Show.{Show as Shown}
use Rattle.raw_model.specs.Program.{ProgramSet, TileProgram, PortProgram}
use Rattle.raw_set_text.specs.declared.word.Word.{Word}
use Rattle.raw_set_text.specs.declared.word.Word.TheVariants as word
use Rattle.raw_set_text.specs.declared.declaration.Position.{Position}
use Rattle.raw_set_text.specs.Entry.{Entry}
use Rattle.raw_set_text.specs.Entry.Entry.{Grid, Limit, Depth, Port, Feed, Data, Misses, Show, Tile, Switch}
use Rattle.raw_set_text.specs.Listing.{pieces, paired, line_of, hex_text, edge_texts}

-- the word of the line that declares a port of this kind
abbrev pub port_word : PortKind → Word
port_word kind.Source = word.Source
port_word kind.Sink = word.Sink

-- the word of an entry's line
abbrev pub word_of : Entry → Word
word_of (Grid columns rows) = word.Grid
word_of (Limit n) = word.Limit
word_of (Depth n) = word.Depth
word_of (Port place capacity) = port_word place.kind
word_of (Feed place words) = word.Feed
word_of (Data tile address words) = word.Data
word_of (Misses tile turns) = word.Misses
word_of (Show tile address words) = word.Show
word_of (Tile tile code) = word.Tile
word_of (Switch tile code) = word.Switch

-- the operands of a port's line behind the edge
abbrev pub port_operands : PortKind → ℕ → List (List ℕ)
port_operands kind.Source capacity = []
port_operands kind.Sink capacity = decimal capacity ∷ []

abbrev pub tile_texts : Position → List (List ℕ)
tile_texts tile = decimal tile.x ∷ decimal tile.y ∷ []

-- the operands of an entry's line
abbrev pub operands_of : Entry → List (List ℕ)
operands_of (Grid columns rows) = decimal columns ∷ decimal rows ∷ []
operands_of (Limit n) = decimal n ∷ []
operands_of (Depth n) = decimal n ∷ []
operands_of (Port place capacity) = edge_texts place ++ port_operands place.kind capacity
operands_of (Feed place words) = edge_texts place ++ map hex_text words
operands_of (Data tile address words) = tile_texts tile ++ hex_text address ∷ map hex_text words
operands_of (Misses tile turns) = tile_texts tile ++ map decimal turns
operands_of (Show tile address words) = tile_texts tile ++ hex_text address ∷ decimal words ∷ []
operands_of (Tile tile code) = tile_texts tile
operands_of (Switch tile code) = tile_texts tile

-- the lines of a section behind its head
abbrev pub code_lines : Entry → List (List ℕ)
code_lines (Tile tile code) = listed_lines 0 code ++ codes "end" ∷ []
code_lines (Switch tile code) = map line_text code ++ codes "end" ∷ []
code_lines _ = []

-- the lines of an entry
abbrev pub entry_lines : Entry → List (List ℕ)
entry_lines entry = line_of (word_of entry) (operands_of entry) ∷ code_lines entry

-- where tile t stands
abbrev pub tile_at : ℕ → ℕ → Position
tile_at columns t = record { x = t % columns; y = t / columns }

abbrev pub port_entry : PortPlace × PortProgram → Entry
port_entry port = Port port.0 port.1.capacity

abbrev pub feed_entries : PortPlace × PortProgram → List Entry
feed_entries port = map (Feed port.0) (pieces 8 port.1.words)

abbrev pub data_entry_of : ℕ → ℕ → DataWord → Entry
data_entry_of columns t cell = Data (tile_at columns t) cell.address (cell.word ∷ [])

abbrev pub memory_entries : ℕ → ℕ × TileProgram → List Entry
memory_entries columns tile = map (data_entry_of columns tile.0) tile.1.cells ++ map (Misses (tile_at columns tile.0)) (pieces 16 tile.1.misses)

abbrev pub show_entry_of : ℕ → Shown → Entry
show_entry_of columns show = Show (tile_at columns show.tile) show.address show.words

abbrev pub code_entries : Position → List Instruction → List Entry
code_entries tile [] = []
code_entries tile (i ∷ code) = Tile tile (i ∷ code) ∷ []

abbrev pub switch_entries : Position → List SwitchInstruction → List Entry
switch_entries tile [] = []
switch_entries tile (i ∷ code) = Switch tile (i ∷ code) ∷ []

abbrev pub program_entries : ℕ → ℕ × TileProgram → List Entry
program_entries columns tile = code_entries (tile_at columns tile.0) tile.1.code ++ switch_entries (tile_at columns tile.0) tile.1.switch

abbrev pub depth_entries : ℕ → List Entry
depth_entries depth = if depth == DEFAULT_DEPTH then [] else Depth depth ∷ []

-- the entries of a set in three parts: the first two, those up to the ports, and those behind the ports
abbrev pub first_entries : ProgramSet → List Entry
first_entries set = Grid set.topo.cols set.topo.rows ∷ Limit set.limit ∷ []

abbrev pub port_entries : ProgramSet → List Entry
port_entries set = depth_entries set.depth ++ map port_entry (paired set.topo.places set.ports)

abbrev pub later_entries : ProgramSet → List Entry
later_entries set =
    flat_map feed_entries (paired set.topo.places set.ports)
    ++ (flat_map (memory_entries set.topo.cols) (enumerate_from 0 set.tiles)
    ++ (map (show_entry_of set.topo.cols) set.shows
    ++ flat_map (program_entries set.topo.cols) (enumerate_from 0 set.tiles)))

abbrev pub set_entries : ProgramSet → List Entry
set_entries set = first_entries set ++ (port_entries set ++ later_entries set)
