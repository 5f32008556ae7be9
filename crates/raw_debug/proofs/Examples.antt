-- Worked scripts, and worked texts of a state.
use Rattle.std.proofs.Common.{◌≡◌, ℕ, List, [], ◌∷◌, Some, None, true, refl}
use Rattle.std.specs.Prelude.{◌==◌, codes, slice_get}
use Rattle.std.specs.Fmt.{digits}
use Rattle.hex.specs.Hex.{encode_with}
use Rattle.raw_text.specs.Number.{number_of, digits_up_to}
use Rattle.raw_grid.specs.declared.parts.Net.TheVariants.{One}
use Rattle.raw_grid.specs.declared.parts.Side.TheVariants.{N}
use Rattle.raw_grid.specs.declared.parts.PortKind.TheVariants as kind
use Rattle.raw_grid.specs.declared.parts.PortPlace.{PortPlace}
use Rattle.raw_model.specs.declared.marks.Mark.TheVariants.{Halted}
use Rattle.raw_model.specs.Program.{ProgramSet, memory_size}
use Rattle.raw_model.specs.Local.{Tile, Switch, Source}
use Rattle.raw_model.specs.Start.{MachineState}
use Rattle.raw_model.specs.Texts.{word_text}
use Rattle.raw_model.specs.StateTexts.{mark_of}
use Rattle.raw_debug.specs.declared.command.Command.TheVariants.{At, Registers}
use Rattle.raw_debug.specs.Commands.{LabelPlaces, readings, command_of, bad_command}
use Rattle.raw_debug.specs.Commands.Meaning.{Says, Echoes, Outside}
use Rattle.raw_debug.specs.Script.{moved}
use Rattle.raw_debug.specs.Walking.{up_to}
use Rattle.raw_debug.specs.Answers.{place_text, place_line, word_line, code_line, passed_line, answer, echo_line}
use Rattle.raw_debug.specs.Stops.{is_of, latest}

-- up to the second entry 0, and up to a third that is not there
second : up_to 0 2 (2 ∷ 0 ∷ 1 ∷ 0 ∷ 1 ∷ []) ≡ 2 ∷ 0 ∷ 1 ∷ 0 ∷ []
second = refl

no_third : up_to 0 3 (2 ∷ 0 ∷ 1 ∷ 0 ∷ 1 ∷ []) ≡ 2 ∷ 0 ∷ 1 ∷ 0 ∷ 1 ∷ []
no_third = refl

-- the moment stays where a command leads nowhere
stays : moved (record { moment = 7; current = record { 0 = 2 } }) (record { 0 = 4 }) None ≡ record { moment = 7; current = record { 0 = 4 } }
stays = refl

place : PortPlace
place = record { kind = kind.Source; net = One; x = 0; y = 0; side = N }

-- one tile, its switch and a source
one_tile : ProgramSet
one_tile = record {
  topo = record { cols = 1; rows = 1; places = place ∷ [] };
  limit = 5;
  depth = 1;
  ports = record { words = 7 ∷ 8 ∷ []; capacity = 0 } ∷ [];
  tiles = record { code = []; switch = []; cells = []; misses = [] } ∷ [];
  shows = [];
}

-- no program has a label
no_labels : LabelPlaces
no_labels p name = None

-- memory is shown of a tile and not of a switch
memory_of_a_switch : List (List (List ℕ))
memory_of_a_switch =
    (codes "mem" ∷ codes "0" ∷ codes "1" ∷ []) ∷ [] ∷ (codes "at" ∷ codes "1" ∷ codes "0" ∷ []) ∷ (codes "mem" ∷ codes "0" ∷ codes "1" ∷ []) ∷ []

last_is_bad : bad_command no_labels one_tile memory_of_a_switch ≡ Some 3
unfolding bad_command command_of number_of digits_up_to memory_size one_tile memory_of_a_switch
last_is_bad = refl

-- a tile by its place, and a place in a row that is not there
by_place : List (List (List ℕ))
by_place =
    (codes "at" ∷ codes "switch" ∷ codes "0" ∷ codes "0" ∷ codes "0" ∷ []) ∷ (codes "at" ∷ codes "tile" ∷ codes "0" ∷ codes "1" ∷ codes "0" ∷ []) ∷ []

no_such_row : bad_command no_labels one_tile by_place ≡ Some 1
unfolding bad_command command_of number_of digits_up_to one_tile by_place
no_such_row = refl

switch_by_place : readings no_labels one_tile by_place ≡ Says (At (record { 0 = 1 }) 0) ∷ Outside ∷ []
unfolding command_of number_of digits_up_to one_tile by_place
switch_by_place = refl

-- the tile and the switch are halted, and one word of the source is on its wire
resting : MachineState
resting = record {
  locals =
      Tile (record { regs = []; pc = 3; count = 2; mark = Halted; memory = [] })
      ∷ Switch (record { regs = 1 ∷ 2 ∷ 3 ∷ 4 ∷ []; pc = 0; count = 0; mark = Halted })
      ∷ Source (record { done = 1; got = [] })
      ∷ [];
  wires = [] ∷ [] ∷ [] ∷ [] ∷ (7 ∷ []) ∷ [];
}

at_a_tile : place_line one_tile resting 0 ≡ codes "at 0 2 halted pc 3\n"
unfolding place_text mark_of digits one_tile resting
at_a_tile = refl

registers_of_a_switch : answer one_tile 5 resting 1 Registers ≡ codes "regs 00000001 00000002 00000003 00000004\n"
unfolding word_text digits encode_with one_tile resting
registers_of_a_switch = refl

sent_by_a_source : answer one_tile 5 resting 2 Registers ≡ codes "sent 1\n"
unfolding digits one_tile resting
sent_by_a_source = refl

a_word : word_line 4 2748 ≡ codes "mem 0x00000004 00000abc\n"
unfolding word_line word_text digits encode_with
a_word = refl

-- a word that is sent where the wire held one
sent_second : is_of 8 (slice_get (7 ∷ 8 ∷ []) 1) ≡ true
sent_second = refl

-- the last eight of nine values
nine : passed_line 3 (1 ∷ 2 ∷ 3 ∷ 4 ∷ 5 ∷ 6 ∷ 7 ∷ 8 ∷ 9 ∷ [])
    ≡ codes "passed 3 9 00000002 00000003 00000004 00000005 00000006 00000007 00000008 00000009\n"
unfolding passed_line word_text digits encode_with
nine = refl

a_line_of_code : code_line 4 4 (codes "halt") ≡ codes "code 4 halt *\n"
unfolding code_line digits
a_line_of_code = refl

-- the tokens of a line that writes them
echoes : readings no_labels one_tile ((codes "echo" ∷ codes "a" ∷ codes "b" ∷ []) ∷ (codes "echo" ∷ []) ∷ []) ≡ Echoes (codes "a" ∷ codes "b" ∷ []) ∷ Outside ∷ []
unfolding command_of one_tile
echoes = refl

echoed : echo_line (codes "a" ∷ codes "b" ∷ []) ≡ codes "a b\n"
echoed = refl

-- the latest number up to 4, of 1, 2, 3 and 4, for which the one before it is 2
latest_found : latest (λ k. k == 2) 4 ≡ Some 3
latest_found = refl

latest_not_found : latest (λ k. k == 4) 4 ≡ None
latest_not_found = refl
