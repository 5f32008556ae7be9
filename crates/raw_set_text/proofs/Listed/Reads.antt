-- The line of an entry reads as it.
use Rattle.std.proofs.Common.{◌≡◌, ℕ, ◌^◌, ◌<◌, ◌%◌, true, List, [], ◌∷◌, ◌++◌, length, map, Some, refl, sym, arith}
use Rattle.std.specs.Prelude.{nat_lt, ◌==◌}
use Rattle.std.specs.Fmt.{decimal}
use Rattle.std.specs.Option.{is_some}
use Rattle.std.specs.List.{list_all, filter_map}
use Rattle.std.proofs.lemmas.Bool.Decides.{nat_tests}
use Rattle.std.proofs.lemmas.List.{length-map}
use Rattle.raw_text.specs.Number.{number_of}
use Rattle.raw_text.proofs.NumberTexts.{decimal_read, hex_read}
use Rattle.raw_grid.specs.declared.parts.Side.{Side}
use Rattle.raw_grid.specs.declared.parts.Side.TheVariants.{N}
use Rattle.raw_grid.specs.declared.parts.PortKind.{PortKind}
use Rattle.raw_grid.specs.declared.parts.PortKind.TheVariants as kind
use Rattle.raw_grid.specs.declared.parts.PortPlace.{PortPlace}
use Rattle.raw_grid.specs.Names.{side_text, side_named}
use Rattle.raw_grid.proofs.NameTables.{net_back}
use Rattle.raw_set_text.specs.declared.word.Word.{Word}
use Rattle.raw_set_text.specs.declared.word.Word.TheVariants as word
use Rattle.raw_set_text.specs.declared.declaration.Position.{Position}
use Rattle.raw_set_text.specs.declared.declaration.Edge.{Edge}
use Rattle.raw_set_text.specs.Entry.{Entry}
use Rattle.raw_set_text.specs.Entry.Entry.{Grid, Limit, Depth, Port, Feed, Data, Misses, Show, Tile, Switch}
use Rattle.raw_set_text.specs.Forms.{word_name, word_named, number_at, position_at, edge_in, numbers_of, grid_entry, limit_entry, depth_entry, source_entry, sink_entry, feed_entry, data_entry, misses_entry, show_entry, tile_entry, switch_entry, line_entry}
use Rattle.raw_set_text.specs.Listing.{hex_text, edge_texts}
use Rattle.raw_set_text.proofs.Listed.Entries.{tile_texts, port_word, port_operands, operands_of, word_of}
use Rattle.raw_set_text.proofs.Listed.Tokens.{AreWords, AreFew, IsNear, IsAligned, IsWritable, HasCapacity}

-- the head of an entry's section declares no instruction
abbrev pub head_of_entry : Entry → Entry
head_of_entry (Tile tile code) = Tile tile []
head_of_entry (Switch tile code) = Switch tile []
head_of_entry entry = entry

word_back : (w : Word) → word_named (word_name w) ≡ Some w
unfolding word_named
word_back word.Grid = refl
word_back w = refl

side_back : (side : Side) → side_named (side_text side) ≡ Some side
unfolding side_named
side_back N = refl
side_back side = refl

hex_back : (n : ℕ) → n < 2 ^ 32 → number_of (hex_text n) ≡ Some n
hex_back n lt = hex_read 8 n (omega arith) (omega arith) (omega arith)

numbers_pass : (text : ℕ → List ℕ) (numbers : List ℕ) → ((n : ℕ) → n < 2 ^ 32 → number_of (text n) ≡ Some n) → AreWords numbers
    → (list_all (λ token. is_some (number_of token)) (map text numbers) ≡ true) × (filter_map number_of (map text numbers) ≡ numbers)
numbers_pass text [] reads all = (refl, refl)
numbers_pass text (n ∷ numbers) reads all =
    let more = numbers_pass text numbers reads all.1 in
    (rw (reads n all.0, more.0) refl, rw (reads n all.0, more.1) refl)

numbers_back : (text : ℕ → List ℕ) (numbers : List ℕ) → ((n : ℕ) → n < 2 ^ 32 → number_of (text n) ≡ Some n) → AreWords numbers → numbers_of (map text numbers) ≡ Some numbers
unfolding numbers_of
numbers_back text numbers reads all = let both = numbers_pass text numbers reads all in rw (both.0, both.1) refl

words_back : (words : List ℕ) → AreWords words → numbers_of (map hex_text words) ≡ Some words
words_back words all = numbers_back hex_text words hex_back all

turns_back : (turns : List ℕ) → AreWords turns → numbers_of (map decimal turns) ≡ Some turns
turns_back turns all = numbers_back decimal turns decimal_read all

edge_of : PortPlace → Edge
edge_of place = record { net = place.net; tile = record { x = place.x; y = place.y }; side = place.side }

edge_back : (place : PortPlace) (more : List (List ℕ)) → IsNear place.x place.y → edge_in (edge_texts place ++ more) ≡ Some (edge_of place)
unfolding edge_of edge_in position_at number_at
edge_back place more near = rw (net_back place.net, decimal_read place.x near.x_fits, decimal_read place.y near.y_fits, side_back place.side) refl

sink_back : (place : PortPlace) (capacity : ℕ) → IsNear place.x place.y → capacity < 2 ^ 32 → place.kind ≡ kind.Sink → sink_entry (edge_texts place ++ decimal capacity ∷ []) ≡ Some (Port place capacity)
unfolding sink_entry edge_of number_at
sink_back place capacity near fits is = rw (edge_back place (decimal capacity ∷ []) near, decimal_read capacity fits, sym is) refl

source_back : (place : PortPlace) → IsNear place.x place.y → place.kind ≡ kind.Source → source_entry (edge_texts place) ≡ Some (Port place 0)
unfolding source_entry edge_of
source_back place near is = rw (edge_back place [] near, sym is) refl

port_back : (place : PortPlace) (capacity : ℕ) (k : PortKind) → place.kind ≡ k → IsNear place.x place.y → HasCapacity k capacity
    → line_entry (word_name (port_word k) ∷ (edge_texts place ++ port_operands k capacity)) ≡ Some (Port place capacity)
unfolding line_entry
port_back place capacity kind.Source is near has = rw (word_back word.Source, source_back place near is, has) refl
port_back place capacity kind.Sink is near has = rw (word_back word.Sink, sink_back place capacity near has is) refl

feed_back : (place : PortPlace) (words : List ℕ) → IsNear place.x place.y → place.kind ≡ kind.Source → AreFew words → feed_entry (edge_texts place ++ map hex_text words) ≡ Some (Feed place words)
unfolding feed_entry edge_of
feed_back place words near is few =
    let some : nat_lt 4 (length (edge_texts place ++ map hex_text words)) ≡ true = (let long = length-map words hex_text in let positive = few.some in grind (arith, nat_tests)) in
    rw (some, edge_back place (map hex_text words) near, words_back words few.fit, sym is) refl

aligned_test : (address : ℕ) → address % 4 ≡ 0 → (address % 4 == 0) ≡ true
aligned_test address e = grind (arith, nat_tests)

data_back : (tile : Position) (address : ℕ) (words : List ℕ) → IsNear tile.x tile.y → IsAligned address → AreFew words
    → data_entry (tile_texts tile ++ hex_text address ∷ map hex_text words) ≡ Some (Data tile address words)
unfolding data_entry position_at number_at
data_back tile address words near at few =
    let some : nat_lt 3 (length (tile_texts tile ++ hex_text address ∷ map hex_text words)) ≡ true = (let long = length-map words hex_text in let positive = few.some in grind (arith, nat_tests)) in
    rw (some, decimal_read tile.x near.x_fits, decimal_read tile.y near.y_fits, hex_back address at.fits, words_back words few.fit, aligned_test address at.aligned) refl

misses_back : (tile : Position) (turns : List ℕ) → IsNear tile.x tile.y → AreFew turns → misses_entry (tile_texts tile ++ map decimal turns) ≡ Some (Misses tile turns)
unfolding misses_entry position_at number_at
misses_back tile turns near few =
    let some : nat_lt 2 (length (tile_texts tile ++ map decimal turns)) ≡ true = (let long = length-map turns decimal in let positive = few.some in grind (arith, nat_tests)) in
    rw (some, decimal_read tile.x near.x_fits, decimal_read tile.y near.y_fits, turns_back turns few.fit) refl

show_back : (tile : Position) (address words : ℕ) → IsNear tile.x tile.y → IsAligned address → 0 < words → words < 2 ^ 32
    → show_entry (tile_texts tile ++ hex_text address ∷ decimal words ∷ []) ≡ Some (Show tile address words)
unfolding show_entry position_at number_at
show_back tile address words near at some fits =
    let positive : nat_lt 0 words ≡ true = grind (arith, nat_tests) in
    rw (decimal_read tile.x near.x_fits, decimal_read tile.y near.y_fits, hex_back address at.fits, decimal_read words fits, aligned_test address at.aligned, positive) refl

-- the line of an entry, or of its section's head
pub entry_back : (entry : Entry) → IsWritable entry → line_entry (word_name (word_of entry) ∷ operands_of entry) ≡ Some (head_of_entry entry)
unfolding line_entry grid_entry limit_entry depth_entry tile_entry switch_entry number_at position_at
entry_back (Grid columns rows) is = rw (word_back word.Grid, decimal_read columns is.x_fits, decimal_read rows is.y_fits) refl
entry_back (Limit n) is = rw (word_back word.Limit, decimal_read n is) refl
entry_back (Depth n) is = rw (word_back word.Depth, decimal_read n is) refl
entry_back (Port place capacity) is = port_back place capacity place.kind refl is.0 is.1
entry_back (Feed place words) is = rw (word_back word.Feed, feed_back place words is.0 is.1 is.2) refl
entry_back (Data tile address words) is = rw (word_back word.Data, data_back tile address words is.0 is.1 is.2) refl
entry_back (Misses tile turns) is = rw (word_back word.Misses, misses_back tile turns is.0 is.1) refl
entry_back (Show tile address words) is = rw (word_back word.Show, show_back tile address words is.0 is.1 is.2 is.3) refl
entry_back (Tile tile code) is = rw (word_back word.Tile, decimal_read tile.x is.0.x_fits, decimal_read tile.y is.0.y_fits) refl
entry_back (Switch tile code) is = rw (word_back word.Switch, decimal_read tile.x is.0.x_fits, decimal_read tile.y is.0.y_fits) refl
