-- Worked trees and planned sets.
use Rattle.std.proofs.Common.{◌≡◌, ℕ, List, [], ◌∷◌, Some, None, refl}
use Rattle.std.specs.Prelude.{map}
use Rattle.raw_model.specs.declared.limits.TheConstants.{DEFAULT_DEPTH}
use Rattle.raw_codegen.specs.declared.limits.TheConstants.{PARTS_LIMIT}
use Rattle.raw_tile_isa.specs.declared.table.TileOp.TheVariants as op
use Rattle.raw_tile_isa.specs.Made as tile
use Rattle.raw_switch_isa.specs.Instruction.{SwitchInstruction}
use Rattle.raw_switch_isa.specs.Made as switch
use Rattle.raw_grid.specs.declared.parts.Net.TheVariants.{One, Two}
use Rattle.raw_grid.specs.Topology.{without_ports}
use Rattle.raw_codegen.specs.Parts.{tile_part}
use Rattle.raw_route.specs.Hauls.{Haulage}
use Rattle.raw_route.specs.Tree.{in_tree, is_left, entry, distance, tree_instruction, tree_ins, tree_tiles, tree_order}
use Rattle.raw_route.specs.Planned.{Sending, plan_parts, planned}

routed : List ℕ → SwitchInstruction
routed routes = switch.with_routes switch.nop routes

-- 'send 2 0 0 0x12345678 1 0 0 1 1 1' on a grid of 2 by 2
multicast : Haulage
multicast = record { from = 0; net = Two; to = 1 ∷ 2 ∷ 3 ∷ [] }

-- 'nop 2:P>E 2:P>S', 'nop 2:W>S 2:W>P', 'nop 2:N>P', 'nop 2:N>P'
switches : map (tree_ins 2 multicast) (0 ∷ 1 ∷ 2 ∷ 3 ∷ []) ≡
    Some (routed (0 ∷ 0 ∷ 0 ∷ 0 ∷ 0 ∷ 0 ∷ 5 ∷ 5 ∷ 0 ∷ 0 ∷ []))
    ∷ Some (routed (0 ∷ 0 ∷ 0 ∷ 0 ∷ 0 ∷ 0 ∷ 0 ∷ 4 ∷ 0 ∷ 4 ∷ []))
    ∷ Some (routed (0 ∷ 0 ∷ 0 ∷ 0 ∷ 0 ∷ 0 ∷ 0 ∷ 0 ∷ 0 ∷ 1 ∷ []))
    ∷ Some (routed (0 ∷ 0 ∷ 0 ∷ 0 ∷ 0 ∷ 0 ∷ 0 ∷ 0 ∷ 0 ∷ 1 ∷ []))
    ∷ []
unfolding routed multicast in_tree tree_instruction is_left entry
switches = refl

order : tree_order (without_ports 2 2) multicast ≡ 4 ∷ 5 ∷ 6 ∷ 7 ∷ []
unfolding multicast tree_order tree_tiles in_tree distance
order = refl

-- from the middle of a grid of 3 by 3 to its north west, its south and itself: the order is by distance
around : Haulage
around = record { from = 4; net = One; to = 0 ∷ 7 ∷ 4 ∷ [] }

around_tiles : tree_tiles (without_ports 3 3) around ≡ 4 ∷ 3 ∷ 7 ∷ 0 ∷ []
unfolding around tree_tiles in_tree distance
around_tiles = refl

-- 'nop 1:P>S 1:P>W 1:P>P' in the middle, 'nop 1:E>N' west of it, nothing in the north
around_switches : map (tree_ins 3 around) (4 ∷ 3 ∷ 1 ∷ []) ≡
    Some (routed (0 ∷ 0 ∷ 5 ∷ 5 ∷ 5 ∷ 0 ∷ 0 ∷ 0 ∷ 0 ∷ 0 ∷ [])) ∷ Some (routed (2 ∷ 0 ∷ 0 ∷ 0 ∷ 0 ∷ 0 ∷ 0 ∷ 0 ∷ 0 ∷ 0 ∷ [])) ∷ None ∷ []
unfolding routed around in_tree tree_instruction is_left entry
around_switches = refl

-- 'grid 2 1', 'send 1 0 0 7 1 0'
east : Sending
east = record { haul = record { from = 0; net = One; to = 1 ∷ [] }; word = 7 }

-- tile 0 is 'addiu $5, $0, 7', 'addu $24, $5, $0', 'halt'; switch 0 'nop 1:P>E', 'halt'; tile 1 'sw $24, 0($0)', 'halt'; switch 1
-- 'nop 1:W>P', 'halt'; one word of tile 1 is shown
one_send : planned 2 1 (east ∷ []) ≡ record {
  topo = without_ports 2 1;
  limit = PARTS_LIMIT;
  depth = DEFAULT_DEPTH;
  ports = [];
  tiles = record {
    code = tile.immediate op.Addiu 5 0 7 ∷ tile.registers op.Addu 24 5 0 ∷ tile.halt ∷ [];
    switch = routed (0 ∷ 5 ∷ 0 ∷ 0 ∷ 0 ∷ 0 ∷ 0 ∷ 0 ∷ 0 ∷ 0 ∷ []) ∷ switch.halt ∷ [];
    cells = [];
    misses = [];
  } ∷ record {
    code = tile.immediate op.Sw 24 0 0 ∷ tile.halt ∷ [];
    switch = routed (0 ∷ 0 ∷ 0 ∷ 0 ∷ 4 ∷ 0 ∷ 0 ∷ 0 ∷ 0 ∷ 0 ∷ []) ∷ switch.halt ∷ [];
    cells = [];
    misses = [];
  } ∷ [];
  shows = record { tile = 1; address = 0; words = 1 } ∷ [];
}
unfolding east routed planned plan_parts in_tree tree_instruction is_left entry
one_send = refl

-- two hauls: the word of the second is stored 4 bytes behind that of the first
wide : List Sending
wide = record { haul = multicast; word = 305419896 } ∷ record { haul = multicast; word = 1 } ∷ []

wide_stores : tile_part 1 (plan_parts 2 2 wide) ≡ tile.immediate op.Sw 25 0 0 ∷ tile.immediate op.Sw 25 0 4 ∷ []
unfolding wide multicast plan_parts in_tree tree_instruction is_left entry
wide_stores = refl

-- 'li $5, 0x12345678' is 'lui $5, 0x1234', 'ori $5, $5, 0x5678'
wide_sends : tile_part 0 (plan_parts 2 2 wide) ≡
    tile.immediate op.Lui 5 0 4660 ∷ tile.immediate op.Ori 5 5 22136 ∷ tile.registers op.Addu 25 5 0
    ∷ tile.immediate op.Addiu 5 0 1 ∷ tile.registers op.Addu 25 5 0 ∷ []
unfolding wide multicast plan_parts in_tree tree_instruction is_left entry
wide_sends = refl
