-- What a set's text declares, entry by entry.
use Rattle.std.specs.Prelude.{ℕ, Bool, true, false, ◌&&◌, ◌==◌, List, []}
use Rattle.raw_tile_isa.specs.Instruction.{Instruction}
use Rattle.raw_switch_isa.specs.Instruction.{SwitchInstruction}
use Rattle.raw_grid.specs.declared.parts.PortKind.{PortKind}
use Rattle.raw_grid.specs.declared.parts.PortKind.TheVariants as kind
use Rattle.raw_grid.specs.declared.parts.PortPlace.{PortPlace}
use Rattle.raw_grid.specs.Names.{same_net, same_side}
use Rattle.raw_set_text.specs.declared.declaration.Position.{Position}
use Rattle.raw_set_text.specs.declared.declaration.Edge.{Edge}
use Rattle.raw_set_text.specs.declared.declaration.Declaration.{Declaration}
use Rattle.raw_set_text.specs.declared.declaration.Declaration.TheVariants as declared
use Rattle.raw_set_text.specs.declared.declaration.Line.{Line}
use Rattle.raw_set_text.specs.declared.declaration.Line.TheVariants as line

-- What a line declares, or a section as a whole: the columns and rows, how many instructions a processor
-- executes at most, how many values a wire holds at most; a port with its capacity, which is 0 for a source,
-- words for a source; words in a tile's memory from an address on, numbers of a tile's miss stream, words of
-- a memory that the report shows; the program of a tile, and that of a switch.
pub data Entry : Type 0 where
  Grid : ℕ → ℕ → Entry
  Limit : ℕ → Entry
  Depth : ℕ → Entry
  Port : PortPlace → ℕ → Entry
  Feed : PortPlace → List ℕ → Entry
  Data : Position → ℕ → List ℕ → Entry
  Misses : Position → List ℕ → Entry
  Show : Position → ℕ → ℕ → Entry
  Tile : Position → List Instruction → Entry
  Switch : Position → List SwitchInstruction → Entry

-- the place of a port of this kind at an edge
abbrev pub place_of : PortKind → Edge → PortPlace
place_of kind edge = record { kind = kind; net = edge.net; x = edge.tile.x; y = edge.tile.y; side = edge.side }

-- what a line declares that is no head of a section
abbrev pub entry_of : Declaration → Entry
entry_of (declared.Grid columns rows) = Grid columns rows
entry_of (declared.Limit n) = Limit n
entry_of (declared.Depth n) = Depth n
entry_of (declared.Source edge) = Port (place_of kind.Source edge) 0
entry_of (declared.Sink edge capacity) = Port (place_of kind.Sink edge) capacity
entry_of (declared.Feed edge words) = Feed (place_of kind.Source edge) words.items
entry_of (declared.Data tile address words) = Data tile address words.items
entry_of (declared.Misses tile turns) = Misses tile turns.items
entry_of (declared.Show tile address words) = Show tile address words

-- what a line says; the head of a section declares a program without instructions
abbrev pub said_by : Line → Entry
said_by (line.Plain declaration) = entry_of declaration
said_by (line.Tile tile) = Tile tile []
said_by (line.Switch tile) = Switch tile []

abbrev pub same_kind : PortKind → PortKind → Bool
same_kind kind.Source kind.Source = true
same_kind kind.Sink kind.Sink = true
same_kind _ _ = false

-- two places of ports are equal, in their kinds too
abbrev pub same_place : PortPlace → PortPlace → Bool
same_place a b = same_kind a.kind b.kind && same_net a.net b.net && (a.x == b.x) && (a.y == b.y) && same_side a.side b.side
