-- A set and its listing, worked out: two words come in on the west side, and their sum stays in register 5.
use Rattle.std.specs.Prelude.{ℕ, List, [], ◌∷◌, codes}
use Rattle.raw_model.specs.declared.limits.TheConstants.{DEFAULT_DEPTH}
use Rattle.raw_tile_isa.specs.declared.table.TileOp.TheVariants as tile
use Rattle.raw_tile_isa.specs.Instruction.{Instruction}
use Rattle.raw_switch_isa.specs.declared.table.SwitchOp.TheVariants as switch
use Rattle.raw_switch_isa.specs.Instruction.{SwitchInstruction}
use Rattle.raw_grid.specs.declared.parts.Net.TheVariants.{One}
use Rattle.raw_grid.specs.declared.parts.Side.TheVariants.{W}
use Rattle.raw_grid.specs.declared.parts.PortKind.TheVariants.{Source}
use Rattle.raw_model.specs.Program.{ProgramSet}

abbrev pub worked_code : List Instruction
worked_code =
    record { op = tile.Addu; rs = 24; rt = 24; rd = 5; sh = 0; imm = 0; target = 0 }
    ∷ record { op = tile.Halt; rs = 0; rt = 0; rd = 0; sh = 0; imm = 0; target = 0 }
    ∷ []

-- a route from input W of network 1 to output P
abbrev pub worked_route : SwitchInstruction
worked_route = record { op = switch.Nop; rd = 0; src = 0; target = 0; rsel = 0; routes = 0 ∷ 0 ∷ 0 ∷ 0 ∷ 4 ∷ 0 ∷ 0 ∷ 0 ∷ 0 ∷ 0 ∷ [] }

abbrev pub worked_switch : List SwitchInstruction
worked_switch =
    worked_route ∷ worked_route
    ∷ record { op = switch.Halt; rd = 0; src = 0; target = 0; rsel = 0; routes = 0 ∷ 0 ∷ 0 ∷ 0 ∷ 0 ∷ 0 ∷ 0 ∷ 0 ∷ 0 ∷ 0 ∷ [] }
    ∷ []

abbrev pub worked_set : ProgramSet
worked_set = record {
  topo = record { cols = 1; rows = 1; places = record { kind = Source; net = One; x = 0; y = 0; side = W } ∷ [] };
  limit = 10;
  depth = DEFAULT_DEPTH;
  ports = record { words = 3 ∷ 4 ∷ []; capacity = 0 } ∷ [];
  tiles = record { code = worked_code; switch = worked_switch; cells = []; misses = [] } ∷ [];
  shows = [];
}

abbrev pub worked_lines : List (List ℕ)
worked_lines =
    codes "grid 1 1"
    ∷ codes "limit 10"
    ∷ codes "source 1 0 0 W"
    ∷ codes "feed 1 0 0 W 0x00000003 0x00000004"
    ∷ codes "tile 0 0"
    ∷ codes "addu $5, $24, $24"
    ∷ codes "halt"
    ∷ codes "end"
    ∷ codes "switch 0 0"
    ∷ codes "nop 1:W>P"
    ∷ codes "nop 1:W>P"
    ∷ codes "halt"
    ∷ codes "end"
    ∷ []
