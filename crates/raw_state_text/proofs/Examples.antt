-- Worked texts of a state.
use Rattle.std.proofs.Common.{◌≡◌, [], ◌∷◌, Some, None, refl}
use Rattle.std.specs.Prelude.{codes, true, false}
use Rattle.std.specs.Fmt.{digits}
use Rattle.hex.specs.Hex.{encode_with}
use Rattle.raw_grid.specs.declared.parts.Net.TheVariants.{One}
use Rattle.raw_grid.specs.declared.parts.Side.TheVariants.{N}
use Rattle.raw_grid.specs.declared.parts.PortKind.TheVariants as kind
use Rattle.raw_grid.specs.declared.parts.PortPlace.{PortPlace}
use Rattle.raw_grid.specs.Wires.{producer_of, consumer_of, wires_of}
use Rattle.raw_model.specs.declared.marks.Cause.TheVariants.{Misaligned}
use Rattle.raw_model.specs.declared.marks.Mark.TheVariants.{Going, Halted, Trapped}
use Rattle.raw_model.specs.Program.{ProgramSet}
use Rattle.raw_model.specs.Local.{Tile, Switch, Source}
use Rattle.raw_model.specs.Start.{MachineState}
use Rattle.raw_model.specs.Texts.{word_text}
use Rattle.raw_model.specs.StateTexts.{program_mark, port_place_text, wait_line_of, wire_line}
use Rattle.raw_state_text.specs.Parts.{port_mark, progress_text}

-- a mark: the limit hides a wait, and a halt or a trap hides the limit
at_limit : program_mark 5 (Some 7) Going 5 ≡ codes "limit"
at_limit = refl

waiting : program_mark 5 (Some 7) Going 4 ≡ codes "waits 7"
unfolding digits
waiting = refl

halted_at_limit : program_mark 5 None Halted 5 ≡ codes "halted"
halted_at_limit = refl

trapped_at_limit : program_mark 5 None (Trapped Misaligned) 5 ≡ codes "trapped misaligned"
trapped_at_limit = refl

spent_port : port_mark (codes "spent") true (Some 4) ≡ codes "spent"
spent_port = refl

waiting_port : port_mark (codes "spent") false (Some 4) ≡ codes "waits 4"
unfolding digits
waiting_port = refl

ready_port : port_mark (codes "full") false None ≡ codes "ready"
ready_port = refl

far_on : progress_text 12 3 ≡ codes " count 12 pc 3"
unfolding digits
far_on = refl

place : PortPlace
place = record { kind = kind.Source; net = One; x = 0; y = 0; side = N }

place_shown : port_place_text place ≡ codes "1 0 0 N"
unfolding digits place
place_shown = refl

-- one tile and a source; wire 0 leads from its switch, which is processor 1, to the tile
one_tile : ProgramSet
one_tile = record {
  topo = record { cols = 1; rows = 1; places = place ∷ [] };
  limit = 5;
  depth = 1;
  ports = record { words = 7 ∷ 8 ∷ []; capacity = 0 } ∷ [];
  tiles = record { code = []; switch = []; cells = []; misses = [] } ∷ [];
  shows = [];
}

wait_for_switch : wait_line_of one_tile 0 (Some 0) ≡ codes "wait 0 wire 0 for 1\n"
unfolding digits one_tile producer_of consumer_of wires_of
wait_for_switch = refl

-- the tile is halted, the switch too, and one word of the source is on its wire, which is the fifth
resting : MachineState
resting = record {
  locals =
      Tile (record { regs = []; pc = 3; count = 2; mark = Halted; memory = [] })
      ∷ Switch (record { regs = 1 ∷ 2 ∷ 3 ∷ 4 ∷ []; pc = 0; count = 0; mark = Halted })
      ∷ Source (record { done = 1; got = [] })
      ∷ [];
  wires = [] ∷ [] ∷ [] ∷ [] ∷ (7 ∷ []) ∷ [];
}

values_shown : wire_line resting 4 ≡ codes "wire 4 00000007\n"
unfolding wire_line word_text digits encode_with resting
values_shown = refl

none_shown : wire_line resting 0 ≡ []
unfolding wire_line resting
none_shown = refl
