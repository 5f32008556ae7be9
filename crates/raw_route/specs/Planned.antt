-- The planned set: what each tile and each switch is given for a list of hauls with their words.
use Rattle.std.specs.Prelude.{ℕ, ◌*◌, ◌<◌, ◌^◌, Bool, ◌==◌, nat_lt, Option, Some, None, List, [], ◌∷◌, ◌++◌, map, length, if◌then◌else◌}
use Rattle.std.specs.List.{list_any, filter_map, range_with_len}
use Rattle.raw_model.specs.declared.limits.TheConstants.{DEFAULT_DEPTH}
use Rattle.raw_codegen.specs.declared.limits.TheConstants.{PARTS_LIMIT}
use Rattle.raw_tile_isa.specs.Instruction.{Instruction}
use Rattle.raw_tile_isa.specs.Load.{load}
use Rattle.raw_grid.specs.declared.parts.Net.{Net}
use Rattle.raw_grid.specs.Topology.{without_ports}
use Rattle.raw_model.specs.declared.program.Show.{Show}
use Rattle.raw_model.specs.Program.{ProgramSet}
use Rattle.raw_codegen.specs.Parts.{Part, ToTile, to_tile, to_switches, script_programs}
use Rattle.raw_codegen.specs.Rows.{register_of, send_ins, store_ins}
use Rattle.raw_route.specs.Hauls.{Haulage, IsHaul}
use Rattle.raw_route.specs.Tree.{tree_ins}

-- a haul and the word that it carries
pub record Sending : Type 0 where
  pub haul : Haulage
  pub word : ℕ

-- each haul with its word
abbrev pub sendings : List Haulage → List ℕ → List Sending
sendings (haul ∷ hauls) (word ∷ words) = record { haul = haul; word = word } ∷ sendings hauls words
sendings _ _ = []

-- a lawful haul with a word of 32 bits
pub record IsSending (tiles : ℕ) (x : Sending) : Type 0 where
  pub haul : IsHaul tiles x.haul
  pub word : x.word < 2 ^ 32

-- a tile is among these
abbrev pub is_among : List ℕ → ℕ → Bool
is_among tiles tile = list_any (λ to. to == tile) tiles

-- the words that are sent to a tile, in order
abbrev pub words_to : ℕ → List Sending → List ℕ
words_to tile [] = []
words_to tile (x ∷ xs) = if is_among x.haul.to tile then x.word ∷ words_to tile xs else words_to tile xs

-- 'li $5, W' and then 'addu $24, $5, $0', or '$25' for network 2
abbrev pub send_code : Net → ℕ → List Instruction
send_code net word = load 5 word ++ send_ins net 5 ∷ []

-- 'sw $24, A($0)', or '$25' for network 2, where A is 4 times the number of earlier words to the tile
abbrev pub store_part : List Sending → Net → ℕ → Part
store_part earlier net tile = ToTile tile (store_ins (register_of net) (length (words_to tile earlier)))

-- the parts of a haul: its tile loads the word and sends it, each switch of its tree passes it on, and each target
-- stores it behind the words of the earlier hauls
abbrev pub haul_parts : ℕ → ℕ → List Sending → Sending → List Part
haul_parts cols rows earlier x =
    to_tile x.haul.from (send_code x.haul.net x.word)
    ++ (to_switches (cols * rows) (tree_ins cols x.haul) ++ map (store_part earlier x.haul.net) x.haul.to)

-- the parts of all hauls, in order
abbrev pub parts_from : ℕ → ℕ → List Sending → List Sending → List Part
parts_from cols rows earlier [] = []
parts_from cols rows earlier (x ∷ xs) = haul_parts cols rows earlier x ++ parts_from cols rows (earlier ++ x ∷ []) xs

unfoldable pub plan_parts : ℕ → ℕ → List Sending → List Part
plan_parts cols rows xs = parts_from cols rows [] xs

-- so many words of a tile's memory, from address 0 on, if there are any
abbrev pub show_first : ℕ → ℕ → Option Show
show_first tile words = if nat_lt 0 words then Some (record { tile = tile; address = 0; words = words }) else None

-- as many words are shown of a tile as are sent to it
abbrev pub show_of : List Sending → ℕ → Option Show
show_of xs tile = show_first tile (length (words_to tile xs))

-- the planned set
unfoldable pub planned : ℕ → ℕ → List Sending → ProgramSet
planned cols rows xs = record {
  topo = without_ports cols rows;
  limit = PARTS_LIMIT;
  depth = DEFAULT_DEPTH;
  ports = [];
  tiles = script_programs (cols * rows) (plan_parts cols rows xs);
  shows = filter_map (show_of xs) (range_with_len 0 (cols * rows));
}
