-- Worked examples of the words of the laws.
use Rattle.std.proofs.Common.{◌≡◌, ℕ, zero, suc, ◌%◌, ◌<◌, List, [], ◌∷◌, Option, Some, None, refl, arith}
use Rattle.std.specs.Prelude.{replicate, slice_index_or}
use Rattle.raw_network.specs.Laws.{of_worker}
use Rattle.raw_tile_isa.specs.declared.table.TileOp.TheVariants.{Addu, Addiu}
use Rattle.raw_tile_isa.specs.Instruction.{Instruction}
use Rattle.raw_switch_isa.specs.declared.table.SwitchOp.TheVariants.{Move}
use Rattle.raw_switch_isa.specs.Instruction.{SwitchInstruction}
use Rattle.raw_switch_isa.specs.Ends.{ends}
use Rattle.raw_grid.specs.declared.parts.Net.TheVariants.{One}
use Rattle.raw_grid.specs.declared.parts.Side.TheVariants.{N, S}
use Rattle.raw_grid.specs.declared.parts.PortKind.TheVariants.{Source, Sink}
use Rattle.raw_grid.specs.Wires.{wires_of, input_wire, output_wire, producer_of, consumer_of}
use Rattle.raw_model.specs.declared.marks.Mark.TheVariants.{Going}
use Rattle.raw_model.specs.Program.{ProgramSet}
use Rattle.raw_model.specs.Local.{Tile}
use Rattle.raw_model.specs.Machine.{machine_of}
use Rattle.raw_model.specs.Start.{MachineState}
use Rattle.raw_model.specs.Waits.{inputs_at, outputs_at, first_wait, waits_for}
use Rattle.raw_model.specs.Needs.{tile_takes_at, tile_sends_at, switch_takes_at, switch_sends_at}
use Rattle.raw_model.specs.Bounds.{most_steps}
use Rattle.raw_model.specs.Serial.{IsJoined}

-- one tile with this program, its switch without one, and a source and a sink on network 1
one_tile : List Instruction → ProgramSet
one_tile code =
    record {
      topo = record {
        cols = 1;
        rows = 1;
        places = record { kind = Source; net = One; x = 0; y = 0; side = N } ∷ record { kind = Sink; net = One; x = 0; y = 0; side = S } ∷ [];
      };
      limit = 5;
      depth = 1;
      ports = record { words = 7 ∷ 8 ∷ []; capacity = 0 } ∷ record { words = []; capacity = 3 } ∷ [];
      tiles = record { code = code; switch = []; cells = []; misses = [] } ∷ [];
      shows = [];
    }

-- a state in which the tile is at its first instruction, with these values on the six wires
with_wires : List (List ℕ) → MachineState
with_wires wires =
    record { locals = Tile (record { regs = []; pc = 0; count = 0; mark = Going; memory = [] }) ∷ []; wires = wires }

-- tile and switch execute 5 instructions each at most, the source has 2 words, and the sink takes 3
fifteen_steps : most_steps (one_tile []) ≡ 15
unfolding most_steps one_tile
fifteen_steps = refl

-- an instruction that reads network 2 and then network 1
reads_both : List Instruction
reads_both = record { op = Addu; rs = 25; rt = 24; rd = 1; sh = 0; imm = 0; target = 0 } ∷ []

-- it waits for network 1 first, on wire 0 from the switch, which is processor 1
waits_for_network_1 : (first_wait (one_tile reads_both) (with_wires ([] ∷ [] ∷ [] ∷ [] ∷ [] ∷ [] ∷ [])) 0 ≡ Some 0)
    × (waits_for (one_tile reads_both) (with_wires ([] ∷ [] ∷ [] ∷ [] ∷ [] ∷ [] ∷ [])) 0 ≡ Some 1)
unfolding one_tile with_wires reads_both machine_of inputs_at outputs_at ends input_wire output_wire producer_of consumer_of wires_of
waits_for_network_1 = (refl, refl)

-- then for network 2, on wire 1, and then for none
waits_for_network_2 : (first_wait (one_tile reads_both) (with_wires ((4 ∷ []) ∷ [] ∷ [] ∷ [] ∷ [] ∷ [] ∷ [])) 0 ≡ Some 1)
    × (first_wait (one_tile reads_both) (with_wires ((4 ∷ []) ∷ (5 ∷ []) ∷ [] ∷ [] ∷ [] ∷ [] ∷ [])) 0 ≡ None)
unfolding one_tile with_wires reads_both machine_of inputs_at outputs_at ends input_wire output_wire wires_of
waits_for_network_2 = (refl, refl)

-- an instruction that reads network 2 and sends on network 1
reads_and_sends : List Instruction
reads_and_sends = record { op = Addiu; rs = 25; rt = 24; rd = 0; sh = 0; imm = 1; target = 0 } ∷ []

-- where wire 2 to the switch is full it waits for its input first, and then for room
waits_for_room : (first_wait (one_tile reads_and_sends) (with_wires ([] ∷ [] ∷ (6 ∷ []) ∷ [] ∷ [] ∷ [] ∷ [])) 0 ≡ Some 1)
    × (first_wait (one_tile reads_and_sends) (with_wires ([] ∷ (5 ∷ []) ∷ (6 ∷ []) ∷ [] ∷ [] ∷ [] ∷ [])) 0 ≡ Some 2)
    × (waits_for (one_tile reads_and_sends) (with_wires ([] ∷ (5 ∷ []) ∷ (6 ∷ []) ∷ [] ∷ [] ∷ [] ∷ [])) 0 ≡ Some 1)
unfolding one_tile with_wires reads_and_sends machine_of inputs_at outputs_at ends input_wire output_wire producer_of consumer_of wires_of
waits_for_room = (refl, refl, refl)

-- two workers: the even processors and the odd ones
two_logs : IsJoined (0 ∷ 3 ∷ 2 ∷ 1 ∷ 0 ∷ []) ((0 ∷ 2 ∷ 0 ∷ []) ∷ (3 ∷ 1 ∷ []) ∷ [])
two_logs = record { some_log = omega arith; each = each }
  where
    each : (w : ℕ) → w < 2 → of_worker (λ p. p % 2) w (0 ∷ 3 ∷ 2 ∷ 1 ∷ 0 ∷ []) ≡ slice_index_or ((0 ∷ 2 ∷ 0 ∷ []) ∷ (3 ∷ 1 ∷ []) ∷ []) w []
    each zero below = refl
    each (suc zero) below = refl
    each (suc (suc w)) below = absurd (omega arith)

-- nothing is joined from no logs
no_logs : (steps : List ℕ) → IsJoined steps [] → ⊥
no_logs steps joined = let some = joined.some_log in omega arith

-- two operands of one network are two values; a result to network 2 is one
adds_twice : Option Instruction
adds_twice = Some (record { op = Addu; rs = 24; rt = 24; rd = 25; sh = 0; imm = 0; target = 0 })

needs_of_adding : (tile_takes_at adds_twice 4 ≡ 2) × (tile_takes_at adds_twice 9 ≡ 0) × (tile_sends_at adds_twice 9 ≡ 1) × (tile_sends_at adds_twice 4 ≡ 0)
unfolding adds_twice
needs_of_adding = (refl, refl, refl, refl)

-- a move of the value from W of network 1, that a route sends to the tile too, takes one value there
moves_and_routes : Option SwitchInstruction
moves_and_routes =
    Some (record { op = Move; rd = 1; src = 7; target = 0; rsel = 0; routes = 0 ∷ 0 ∷ 0 ∷ 0 ∷ 4 ∷ 0 ∷ 0 ∷ 0 ∷ 0 ∷ 0 ∷ [] })

needs_of_moving : (switch_takes_at moves_and_routes 3 ≡ 1) × (switch_takes_at moves_and_routes 4 ≡ 0) × (switch_sends_at moves_and_routes 4 ≡ 1)
unfolding moves_and_routes ends
needs_of_moving = (refl, refl, refl)

-- a move without a route takes its value
moves_alone : Option SwitchInstruction
moves_alone = Some (record { op = Move; rd = 1; src = 7; target = 0; rsel = 0; routes = replicate 10 0 })

needs_of_move_alone : switch_takes_at moves_alone 3 ≡ 1
unfolding moves_alone ends
needs_of_move_alone = refl
