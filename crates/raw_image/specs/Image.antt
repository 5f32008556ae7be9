-- The bytes of a set, and the first fault of bytes that are no set's.
use Rattle.std.specs.Prelude.{◌≡◌, ℕ, ◌+◌, List, [], ◌∷◌, ◌++◌, length, Err, codes}
use Rattle.std.specs.List.{All, flat_map, zip}
use Rattle.std.specs.Int.{w32, w64, to_be_bytes}
use Rattle.raw_image.specs.declared.version.TheConstants.{VERSION_1_DEPTH}
use Rattle.raw_tile_isa.specs.Instruction.{Instruction, code_of}
use Rattle.raw_switch_isa.specs.Instruction.{SwitchInstruction}
use Rattle.raw_switch_isa.specs.Code.{code_of as switch_code_of}
use Rattle.raw_grid.specs.declared.parts.PortKind.{PortKind}
use Rattle.raw_grid.specs.declared.parts.PortKind.TheVariants.{Source, Sink}
use Rattle.raw_grid.specs.declared.parts.PortPlace.{PortPlace}
use Rattle.raw_grid.specs.Names.{kind_number, net_number, side_number}
use Rattle.raw_model.specs.declared.program.DataWord.{DataWord}
use Rattle.raw_model.specs.declared.program.Show.{Show}
use Rattle.raw_model.specs.Program.{ProgramSet, TileProgram, PortProgram, IsSet}
use Rattle.raw_image.specs.declared.kind.ImageKind.{ImageKind}
use Rattle.raw_image.specs.declared.version.Version.{Version}
use Rattle.raw_image.specs.declared.version.Version.TheVariants as version
use Rattle.raw_image.specs.Reading.{reading}

-- a number in four bytes, the highest first
abbrev pub number : ℕ → List ℕ
number n = to_be_bytes w32 n

-- a list with the number of its elements before it
abbrev pub counted : {A : Type 0} → (A → List ℕ) → List A → List ℕ
counted bytes xs = number (length xs) ++ flat_map bytes xs

-- the words of instructions
abbrev pub instruction_bytes : Instruction → List ℕ
instruction_bytes ins = number (code_of ins)

abbrev pub switch_bytes : SwitchInstruction → List ℕ
switch_bytes ins = to_be_bytes w64 (switch_code_of ins)

-- a word in memory: its address and the word
abbrev pub cell_bytes : DataWord → List ℕ
cell_bytes cell = number cell.address ++ number cell.word

-- where a port stands: its kind, network, column, row and side, and three bytes 0
abbrev pub place_bytes : PortPlace → List ℕ
place_bytes place = kind_number place.kind ∷ net_number place.net ∷ place.x ∷ place.y ∷ side_number place.side ∷ 0 ∷ 0 ∷ 0 ∷ []

-- what a port is given: the words of a source, the capacity of a sink
abbrev pub given_bytes : PortKind → PortProgram → List ℕ
given_bytes Source port = counted number port.words
given_bytes Sink port = number port.capacity

abbrev pub port_bytes : PortPlace × PortProgram → List ℕ
port_bytes port = place_bytes port.0 ++ given_bytes port.0.kind port.1

abbrev pub ports_bytes : List PortPlace → List PortProgram → List ℕ
ports_bytes places ports = number (length ports) ++ flat_map port_bytes (zip places ports)

-- the miss stream of a tile, which version 1 does not have
abbrev pub misses_bytes : Version → List ℕ → List ℕ
misses_bytes version.One misses = []
misses_bytes version.Two misses = number (length misses) ++ misses

-- what a tile is given
abbrev pub tile_bytes : Version → TileProgram → List ℕ
tile_bytes version tile =
    counted instruction_bytes tile.code
    ++ (counted switch_bytes tile.switch
    ++ (counted cell_bytes tile.cells
    ++ misses_bytes version tile.misses))

-- words that the report shows: the number of the tile, the address and the number of words
abbrev pub show_bytes : Show → List ℕ
show_bytes show = number show.tile ++ (number show.address ++ number show.words)

abbrev pub version_number : Version → ℕ
version_number version.One = 1
version_number version.Two = 2

-- the depth and a byte 0, or two bytes 0 in version 1
abbrev pub depth_bytes : Version → ℕ → List ℕ
depth_bytes version.One depth = 0 ∷ 0 ∷ []
depth_bytes version.Two depth = depth ∷ 0 ∷ []

-- the fields before the ports
abbrev pub head_bytes : Version → ℕ → ℕ → ℕ → ℕ → List ℕ
head_bytes version columns rows depth limit =
    codes "RAWT"
    ++ (number (version_number version)
    ++ (columns ∷ rows ∷ depth_bytes version depth
    ++ number limit))

-- the fields of a set in a version, in their order
unfoldable pub image_in : Version → ProgramSet → List ℕ
image_in version set =
    head_bytes version set.topo.cols set.topo.rows set.depth set.limit
    ++ (ports_bytes set.topo.places set.ports
    ++ (flat_map (tile_bytes version) set.tiles
    ++ counted show_bytes set.shows))

-- the image of a set
abbrev pub image : ProgramSet → List ℕ
image set = image_in version.Two set

-- what a version can hold: version 1 means its own depth and empty miss streams
abbrev pub Holds : Version → ProgramSet → Type 0
Holds version.One set = (set.depth ≡ VERSION_1_DEPTH) × All (λ (tile : TileProgram). tile.misses ≡ []) set.tiles
Holds version.Two set = Unit {0}

-- the bytes are the image of the set in this version
pub record IsImageIn (version : Version) (bytes : List ℕ) (set : ProgramSet) : Type 0 where
  pub lawful : IsSet set
  pub held : Holds version set
  pub fields : bytes ≡ image_in version set

-- the bytes are an image of the set, in some version
abbrev pub Image : List ℕ → ProgramSet → Type 0
Image bytes set = (version : Version) × IsImageIn version bytes set

-- the first fault of bytes in the order of the fields: where it is, and its kind
pub record ImageFault (bytes : List ℕ) (offset : ℕ) (kind : ImageKind) : Type 0 where
  pub left : ℕ
  pub first : reading bytes ≡ Err (record { left = left; kind = kind })
  pub place : offset + left ≡ length bytes
