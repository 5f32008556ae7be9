-- The lines of entries are lines without a fault, and their tokens.
use Rattle.std.proofs.Common.{◌≡◌, ℕ, ◌+◌, ◌*◌, ◌%◌, ◌^◌, ◌<◌, ◌≤◌, List, [], ◌∷◌, ◌++◌, length, map, All, refl, arith, length-append}
use Rattle.std.specs.Prelude.{codes}
use Rattle.std.specs.Fmt.{decimal}
use Rattle.std.specs.List.{AllByRecursion}
use Rattle.std.proofs.lemmas.List.{length-map}
use Rattle.raw_text.specs.Lines.{tokens_of, IsLine, IsToken}
use Rattle.raw_text.specs.Number.{hex_digits}
use Rattle.raw_text.proofs.WrittenTokens.{tokens_spaced, joined_plain, joined_length}
use Rattle.raw_text.proofs.NumberTexts.{decimal_token, decimal_length, hex_token, hex_length}
use Rattle.raw_tile_isa.specs.declared.limits.TheConstants.{MAX_TILE_CODE}
use Rattle.raw_tile_isa.specs.Instruction.{IsTileIns}
use Rattle.raw_switch_isa.specs.declared.limits.TheConstants.{MAX_SWITCH_CODE}
use Rattle.raw_switch_isa.specs.Instruction.{IsSwitchIns}
use Rattle.raw_grid.specs.declared.parts.Net.{Net}
use Rattle.raw_grid.specs.declared.parts.Net.TheVariants.{One, Two}
use Rattle.raw_grid.specs.declared.parts.Side.{Side}
use Rattle.raw_grid.specs.declared.parts.Side.TheVariants.{N}
use Rattle.raw_grid.specs.declared.parts.PortKind.{PortKind}
use Rattle.raw_grid.specs.declared.parts.PortKind.TheVariants as kind
use Rattle.raw_grid.specs.declared.parts.PortPlace.{PortPlace}
use Rattle.raw_grid.specs.Names.{net_text, side_text}
use Rattle.raw_set_text.specs.declared.word.Word.{Word}
use Rattle.raw_set_text.specs.declared.word.Word.TheVariants as word
use Rattle.raw_set_text.specs.declared.declaration.Position.{Position}
use Rattle.raw_set_text.specs.Entry.{Entry}
use Rattle.raw_set_text.specs.Entry.Entry.{Grid, Limit, Depth, Port, Feed, Data, Misses, Show, Tile, Switch}
use Rattle.raw_set_text.specs.Forms.{word_name}
use Rattle.raw_set_text.specs.Listing.{line_of, hex_text, edge_texts}
use Rattle.raw_set_text.proofs.Listed.Entries.{port_operands, tile_texts, operands_of}

-- a token of at most ten bytes
pub record IsShort (text : List ℕ) : Type 0 where
  pub token : IsToken text
  pub short : length text ≤ 10

pub decimal_short : (n : ℕ) → n < 2 ^ 32 → IsShort (decimal n)
decimal_short n lt = record { token = decimal_token n (omega arith); short = decimal_length n lt }

pub hex_short : (n : ℕ) → n < 2 ^ 32 → IsShort (hex_text n)
hex_short n lt =
    let most : n < 16 ^ 8 = omega arith in
    let long = hex_length 8 n (omega arith) (omega arith) most in
    record {
      token = hex_token 8 n (omega arith) (omega arith) most;
      short = omega (arith, long, length-append (codes "0x") (hex_digits 8 n));
    }

net_short : (net : Net) → IsShort (net_text net)
net_short One = record { token = record { some = omega arith; solid = refl }; short = omega arith }
net_short Two = record { token = record { some = omega arith; solid = refl }; short = omega arith }

side_short : (side : Side) → IsShort (side_text side)
side_short N = record { token = record { some = omega arith; solid = refl }; short = omega arith }
side_short side = record { token = record { some = omega arith; solid = refl }; short = omega arith }

name_short : (w : Word) → IsShort (word_name w)
name_short word.Grid = record { token = record { some = omega arith; solid = refl }; short = omega arith }
name_short w = record { token = record { some = omega arith; solid = refl }; short = omega arith }

-- few short tokens
pub record AreShort (texts : List (List ℕ)) : Type 0 where
  pub each : AllByRecursion IsShort texts
  pub few : length texts ≤ 20

each_token : (texts : List (List ℕ)) → AllByRecursion IsShort texts → AllByRecursion IsToken texts
each_token [] all = tt
each_token (text ∷ texts) all = (all.0.token, each_token texts all.1)

each_length : (texts : List (List ℕ)) → AllByRecursion IsShort texts → AllByRecursion (λ text. length text ≤ 10) texts
each_length [] all = tt
each_length (text ∷ texts) all = (all.0.short, each_length texts all.1)

module _ (w : Word) (operands : List (List ℕ)) (are : AreShort operands) where
  whole : AllByRecursion IsShort (word_name w ∷ operands)
  whole = (name_short w, are.each)

  -- the tokens of a line
  pub line_tokens : tokens_of (line_of w operands) ≡ word_name w ∷ operands
  line_tokens = tokens_spaced (word_name w ∷ operands) (each_token (word_name w ∷ operands) whole)

  -- a line has at most 11 bytes for its word and for each operand
  pub line_short : length (line_of w operands) ≤ 11 + 11 * length operands
  line_short = omega (arith, joined_length (codes " ") (word_name w ∷ operands) 10 (each_length (word_name w ∷ operands) whole))

  -- a line has no fault
  pub line_is_line : IsLine (line_of w operands)
  line_is_line = record {
    plain = joined_plain (codes " ") (word_name w ∷ operands) refl (each_token (word_name w ∷ operands) whole);
    short = omega (arith, line_short, are.few);
  }

-- numbers of 32 bits, each of them
abbrev pub AreWords : List ℕ → Type 0
AreWords words = AllByRecursion (λ word. word < 2 ^ 32) words

words_short : (words : List ℕ) → AreWords words → AllByRecursion IsShort (map hex_text words)
words_short [] all = tt
words_short (n ∷ words) all = (hex_short n all.0, words_short words all.1)

numbers_short : (numbers : List ℕ) → AreWords numbers → AllByRecursion IsShort (map decimal numbers)
numbers_short [] all = tt
numbers_short (n ∷ numbers) all = (decimal_short n all.0, numbers_short numbers all.1)

-- a port's capacity is written where it is a sink's
abbrev pub HasCapacity : PortKind → ℕ → Type 0
HasCapacity kind.Source capacity = capacity ≡ 0
HasCapacity kind.Sink capacity = capacity < 2 ^ 32

-- a place of numbers that are written in a line
pub record IsNear (x y : ℕ) : Type 0 where
  pub x_fits : x < 2 ^ 32
  pub y_fits : y < 2 ^ 32

-- words that one line holds
pub record AreFew (words : List ℕ) : Type 0 where
  pub some : 0 < length words
  pub few : length words ≤ 16
  pub fit : AreWords words

pub record IsAligned (address : ℕ) : Type 0 where
  pub fits : address < 2 ^ 32
  pub aligned : address % 4 ≡ 0

-- an entry that a line, or a section, says
abbrev pub IsWritable : Entry → Type 0
IsWritable (Grid columns rows) = IsNear columns rows
IsWritable (Limit n) = n < 2 ^ 32
IsWritable (Depth n) = n < 2 ^ 32
IsWritable (Port place capacity) = IsNear place.x place.y × HasCapacity place.kind capacity
IsWritable (Feed place words) = IsNear place.x place.y × (place.kind ≡ kind.Source) × AreFew words
IsWritable (Data tile address words) = IsNear tile.x tile.y × IsAligned address × AreFew words
IsWritable (Misses tile turns) = IsNear tile.x tile.y × AreFew turns
IsWritable (Show tile address words) = IsNear tile.x tile.y × IsAligned address × (0 < words) × (words < 2 ^ 32)
IsWritable (Tile tile code) = IsNear tile.x tile.y × (length code ≤ MAX_TILE_CODE) × AllByRecursion IsTileIns code
IsWritable (Switch tile code) = IsNear tile.x tile.y × (length code ≤ MAX_SWITCH_CODE) × All IsSwitchIns code

short_append : (front back : List (List ℕ)) → AllByRecursion IsShort front → AllByRecursion IsShort back → AllByRecursion IsShort (front ++ back)
short_append [] back all more = more
short_append (text ∷ front) back all more = (all.0, short_append front back all.1 more)

edge_short : (place : PortPlace) → IsNear place.x place.y → AllByRecursion IsShort (edge_texts place)
edge_short place near = (net_short place.net, (decimal_short place.x near.x_fits, (decimal_short place.y near.y_fits, (side_short place.side, tt))))

pub capacity_short : (k : PortKind) (capacity : ℕ) → HasCapacity k capacity → (AllByRecursion IsShort (port_operands k capacity)) × (length (port_operands k capacity) ≤ 1)
capacity_short kind.Source capacity has = (tt, omega arith)
capacity_short kind.Sink capacity has = ((decimal_short capacity has, tt), omega arith)

tile_short : (tile : Position) → IsNear tile.x tile.y → AllByRecursion IsShort (tile_texts tile)
tile_short tile near = (decimal_short tile.x near.x_fits, (decimal_short tile.y near.y_fits, tt))

-- the operands of such an entry
pub operands_short : (entry : Entry) → IsWritable entry → AreShort (operands_of entry)
operands_short (Grid columns rows) is = record { each = (decimal_short columns is.x_fits, (decimal_short rows is.y_fits, tt)); few = omega arith }
operands_short (Limit n) is = record { each = (decimal_short n is, tt); few = omega arith }
operands_short (Depth n) is = record { each = (decimal_short n is, tt); few = omega arith }
operands_short (Port place capacity) is =
    let more = capacity_short place.kind capacity is.1 in
    record { each = short_append (edge_texts place) (port_operands place.kind capacity) (edge_short place is.0) more.0; few = omega (arith, more.1) }
operands_short (Feed place words) is =
    record { each = short_append (edge_texts place) (map hex_text words) (edge_short place is.0) (words_short words is.2.fit); few = omega (arith, is.2.few, length-map words hex_text) }
operands_short (Data tile address words) is =
    record { each = short_append (tile_texts tile) (hex_text address ∷ map hex_text words) (tile_short tile is.0) (hex_short address is.1.fits, words_short words is.2.fit); few = omega (arith, is.2.few, length-map words hex_text) }
operands_short (Misses tile turns) is =
    record { each = short_append (tile_texts tile) (map decimal turns) (tile_short tile is.0) (numbers_short turns is.1.fit); few = omega (arith, is.1.few, length-map turns decimal) }
operands_short (Show tile address words) is =
    record { each = short_append (tile_texts tile) (hex_text address ∷ decimal words ∷ []) (tile_short tile is.0) (hex_short address is.1.fits, (decimal_short words is.3, tt)); few = omega arith }
operands_short (Tile tile code) is = record { each = tile_short tile is.0; few = omega arith }
operands_short (Switch tile code) is = record { each = tile_short tile is.0; few = omega arith }
