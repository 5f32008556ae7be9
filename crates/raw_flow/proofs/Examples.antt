-- Worked flows: their values, and what their tiles and switches are given.
use Rattle.std.proofs.Common.{◌≡◌, ℕ, List, [], ◌∷◌, refl}
use Rattle.raw_tile_isa.specs.declared.table.TileOp.TheVariants as op
use Rattle.raw_tile_isa.specs.Made as tile
use Rattle.raw_tile_isa.specs.Words.{word_sub, word_mul_low, word_shift_left}
use Rattle.raw_switch_isa.specs.Instruction.{SwitchInstruction}
use Rattle.raw_switch_isa.specs.Made as switch
use Rattle.raw_codegen.specs.Parts.{tile_part, switch_part}
use Rattle.raw_codegen.specs.Rows.{load_ins, store_ins}
use Rattle.raw_route.specs.Tree.{in_tree, is_left, entry, tree_instruction}
use Rattle.raw_flow.specs.declared.node.FlowOp.TheVariants.{Add, Sub, Mul, ShiftLeft}
use Rattle.raw_flow.specs.declared.node.Node.TheVariants.{Input, Const, Apply}
use Rattle.raw_flow.specs.Flows.{Dataflow, values_of, outs_of}
use Rattle.raw_grid.specs.declared.parts.Net.TheVariants.{One, Two}
use Rattle.raw_grid.specs.declared.parts.PortKind.TheVariants.{Source, Sink}
use Rattle.raw_grid.specs.declared.parts.Side.TheVariants.{E, W}
use Rattle.raw_model.specs.Program.{PortProgram}
use Rattle.raw_flow.specs.Ports.{FlowPorts, usual_ports}
use Rattle.raw_flow.specs.Compiled.{home, flow_parts, port_programs}

routed : List ℕ → SwitchInstruction
routed routes = switch.with_routes switch.nop routes

-- 'grid 2 1', 'input x', 'input y', 'def s add x y', 'def t mul s s', 'out t'
sum_and_square : Dataflow
sum_and_square = record { cols = 2; rows = 1; nodes = Input ∷ Input ∷ Apply Add 0 1 ∷ Apply Mul 2 2 ∷ []; outs = 3 ∷ [] }

-- of 3 and 4
forty_nine : outs_of sum_and_square (3 ∷ 4 ∷ []) ≡ 49 ∷ []
unfolding sum_and_square values_of word_mul_low
forty_nine = refl

-- tile 0 stores both inputs, adds them and sends the sum; it stores the square, and sends it
tile_0 : tile_part 0 (flow_parts sum_and_square usual_ports) ≡
    store_ins 24 0 ∷ store_ins 24 1
    ∷ load_ins 5 0 ∷ load_ins 6 1 ∷ tile.registers op.Addu 7 5 6 ∷ store_ins 7 2
    ∷ load_ins 24 2
    ∷ store_ins 24 3 ∷ load_ins 24 3 ∷ []
unfolding sum_and_square flow_parts home in_tree is_left entry tree_instruction
tile_0 = refl

-- tile 1 stores the sum, squares it and sends the square: to it the sum comes once
tile_1 : tile_part 1 (flow_parts sum_and_square usual_ports) ≡
    store_ins 24 2 ∷ load_ins 5 2 ∷ load_ins 6 2 ∷ tile.registers op.Mul 7 5 6 ∷ store_ins 7 3
    ∷ load_ins 24 3 ∷ []
unfolding sum_and_square flow_parts home in_tree is_left entry tree_instruction
tile_1 = refl

-- 'nop 1:W>P' twice, 'nop 1:P>E', 'nop 1:E>P', 'nop 1:P>W'; N, E, S, W, P are the codes 1 to 5
switch_0 : switch_part 0 (flow_parts sum_and_square usual_ports) ≡
    routed (0 ∷ 0 ∷ 0 ∷ 0 ∷ 4 ∷ 0 ∷ 0 ∷ 0 ∷ 0 ∷ 0 ∷ [])
    ∷ routed (0 ∷ 0 ∷ 0 ∷ 0 ∷ 4 ∷ 0 ∷ 0 ∷ 0 ∷ 0 ∷ 0 ∷ [])
    ∷ routed (0 ∷ 5 ∷ 0 ∷ 0 ∷ 0 ∷ 0 ∷ 0 ∷ 0 ∷ 0 ∷ 0 ∷ [])
    ∷ routed (0 ∷ 0 ∷ 0 ∷ 0 ∷ 2 ∷ 0 ∷ 0 ∷ 0 ∷ 0 ∷ 0 ∷ [])
    ∷ routed (0 ∷ 0 ∷ 0 ∷ 5 ∷ 0 ∷ 0 ∷ 0 ∷ 0 ∷ 0 ∷ 0 ∷ [])
    ∷ []
unfolding routed sum_and_square flow_parts home in_tree is_left entry tree_instruction
switch_0 = refl

-- 'nop 1:W>P', 'nop 1:P>W'
switch_1 : switch_part 1 (flow_parts sum_and_square usual_ports) ≡
    routed (0 ∷ 0 ∷ 0 ∷ 0 ∷ 4 ∷ 0 ∷ 0 ∷ 0 ∷ 0 ∷ 0 ∷ []) ∷ routed (0 ∷ 0 ∷ 0 ∷ 5 ∷ 0 ∷ 0 ∷ 0 ∷ 0 ∷ 0 ∷ 0 ∷ []) ∷ []
unfolding routed sum_and_square flow_parts home in_tree is_left entry tree_instruction
switch_1 = refl

-- 'grid 1 1', 'def a const 5', 'out a'
one_constant : Dataflow
one_constant = record { cols = 1; rows = 1; nodes = Const 5 ∷ []; outs = 0 ∷ [] }

five : outs_of one_constant [] ≡ 5 ∷ []
unfolding one_constant values_of
five = refl

constant_tile : tile_part 0 (flow_parts one_constant usual_ports) ≡ tile.immediate op.Addiu 7 0 5 ∷ store_ins 7 0 ∷ load_ins 24 0 ∷ []
unfolding one_constant flow_parts home
constant_tile = refl

-- inputs stand between other nodes, and outs in their own order, one of them twice: 100 - 40 is shifted by 34 modulo 32
mixed : Dataflow
mixed = record { cols = 3; rows = 2; nodes = Const 100 ∷ Input ∷ Apply Sub 0 1 ∷ Input ∷ Apply ShiftLeft 2 3 ∷ []; outs = 4 ∷ 1 ∷ 3 ∷ 4 ∷ 0 ∷ [] }

mixed_values : outs_of mixed (40 ∷ 34 ∷ []) ≡ 240 ∷ 40 ∷ 34 ∷ 240 ∷ 100 ∷ []
unfolding mixed values_of word_sub word_shift_left
mixed_values = refl

-- no value is made at tile 1 or goes there; value 4 is made at tile 4, and goes to tile 0 once for its two outs, along its row and then north
mixed_tile : tile_part 1 (flow_parts mixed usual_ports) ≡ []
unfolding mixed flow_parts home in_tree is_left entry tree_instruction
mixed_tile = refl

mixed_switch : switch_part 3 (flow_parts mixed usual_ports) ≡ routed (2 ∷ 0 ∷ 0 ∷ 0 ∷ 0 ∷ 0 ∷ 0 ∷ 0 ∷ 0 ∷ 0 ∷ []) ∷ []
unfolding routed mixed flow_parts home in_tree is_left entry tree_instruction
mixed_switch = refl

-- 'grid 2 1', one input from the source at 1 0 0 W and one from that at 2 1 0 E, and their sum to the sinks at 1 1 0 E and 2 0 0 W
far_sum : Dataflow
far_sum = record { cols = 2; rows = 1; nodes = Input ∷ Input ∷ Apply Add 0 1 ∷ []; outs = 2 ∷ 2 ∷ [] }

far_ports : FlowPorts
far_ports = record {
  sources = record { kind = Source; net = One; x = 0; y = 0; side = W } ∷ record { kind = Source; net = Two; x = 1; y = 0; side = E } ∷ [];
  sinks = record { kind = Sink; net = One; x = 1; y = 0; side = E } ∷ record { kind = Sink; net = Two; x = 0; y = 0; side = W } ∷ [];
  comes = 0 ∷ 1 ∷ [];
  goes = 0 ∷ 1 ∷ [];
}

-- each source has its word, and each sink room for one
far_programs : ◌≡◌ {A = List PortProgram} (port_programs far_sum far_ports (7 ∷ 8 ∷ []))
    (record { words = 7 ∷ []; capacity = 0 } ∷ record { words = 8 ∷ []; capacity = 0 } ∷ record { words = []; capacity = 1 } ∷ record { words = []; capacity = 1 } ∷ [])
unfolding far_sum far_ports
far_programs = refl

-- tile 0 stores its input, and the other that comes from tile 1; it adds them, and sends the sum to tile 1 and to its own sink
far_tile_0 : tile_part 0 (flow_parts far_sum far_ports) ≡
    store_ins 24 0 ∷ store_ins 24 1
    ∷ load_ins 5 0 ∷ load_ins 6 1 ∷ tile.registers op.Addu 7 5 6 ∷ store_ins 7 2
    ∷ load_ins 24 2 ∷ load_ins 25 2 ∷ []
unfolding far_sum far_ports flow_parts home in_tree is_left entry tree_instruction
far_tile_0 = refl

-- tile 1 stores its input, which comes on network 2, and sends it to tile 0; it stores the sum, and sends it to its sink
far_tile_1 : tile_part 1 (flow_parts far_sum far_ports) ≡ store_ins 25 1 ∷ load_ins 24 1 ∷ store_ins 24 2 ∷ load_ins 24 2 ∷ []
unfolding far_sum far_ports flow_parts home in_tree is_left entry tree_instruction
far_tile_1 = refl

-- 'nop 2:E>P', 'nop 1:P>W', 'nop 1:W>P', 'nop 1:P>E'
far_switch_1 : switch_part 1 (flow_parts far_sum far_ports) ≡
    routed (0 ∷ 0 ∷ 0 ∷ 0 ∷ 0 ∷ 0 ∷ 0 ∷ 0 ∷ 0 ∷ 2 ∷ [])
    ∷ routed (0 ∷ 0 ∷ 0 ∷ 5 ∷ 0 ∷ 0 ∷ 0 ∷ 0 ∷ 0 ∷ 0 ∷ [])
    ∷ routed (0 ∷ 0 ∷ 0 ∷ 0 ∷ 4 ∷ 0 ∷ 0 ∷ 0 ∷ 0 ∷ 0 ∷ [])
    ∷ routed (0 ∷ 5 ∷ 0 ∷ 0 ∷ 0 ∷ 0 ∷ 0 ∷ 0 ∷ 0 ∷ 0 ∷ [])
    ∷ []
unfolding routed far_sum far_ports flow_parts home in_tree is_left entry tree_instruction
far_switch_1 = refl
