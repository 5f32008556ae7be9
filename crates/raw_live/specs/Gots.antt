-- What a text says of the words that a sink received.
use Rattle.std.specs.Prelude.{ℕ, ◌-◌, ◌^◌, ◌<◌, List, [], ◌∷◌, ◌++◌, length, drop, codes, Result, Ok, Err, if◌then◌else◌}
use Rattle.std.specs.List.{flat_map}
use Rattle.std.specs.Int.{w32, from_be_bytes}
use Rattle.std.specs.Str.{bytes_eq}
use Rattle.hex.specs.Hex.{decode_of}
use Rattle.hex.specs.declared.error.FromHexError.{FromHexError}
use Rattle.raw_queue.specs.declared.item.Item.{Item}
use Rattle.raw_queue.specs.declared.item.Item.TheVariants.{Word, End}
use Rattle.raw_live_text.specs.Feeding.{whole_lines}
use Rattle.raw_live.specs.Items.{got_line}

abbrev pub number_or_0 : Result (List ℕ) FromHexError → ℕ
number_or_0 (Ok bytes) = from_be_bytes w32 bytes
number_or_0 (Err e) = 0

-- the number that the last eight bytes of a line write in hexadecimal digits; 0 where they do not
abbrev pub last_word : List ℕ → ℕ
last_word line = number_or_0 (decode_of (drop (length line - 8) line))

-- the word of a line `got P w`; none of another line
abbrev pub got_on : ℕ → List ℕ → List ℕ
got_on port line = if bytes_eq (line ++ codes "\n") (got_line port (last_word line)) then last_word line ∷ [] else []

-- the words of the whole lines `got P w` of a text, in order
unfoldable pub gots : List ℕ → ℕ → List ℕ
gots bytes port = flat_map (got_on port) (whole_lines bytes)

-- the ports and words of the items are numbers of 32 bits
abbrev pub AreSmall : List Item → Type 0
AreSmall [] = Unit {0}
AreSmall (Word port word ∷ items) = (port < 2 ^ 32) × (word < 2 ^ 32) × AreSmall items
AreSmall (End ∷ items) = AreSmall items
