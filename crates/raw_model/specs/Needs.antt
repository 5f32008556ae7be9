-- What the next row of a processor takes and sends at each of its ends, and what it sent. The ends N, E, S, W and P of
-- network 1 are 0 to 4, those of network 2 are 5 to 9; a tile and a port have the ends 4 and 9 alone.
use Rattle.std.specs.Prelude.{◌≡◌, ℕ, ◌<◌, Bool, true, false, ◌||◌, ◌==◌, Option, Some, None, is_some, List, [], length, if◌then◌else◌}
use Rattle.raw_network.specs.Network.{Sent, count_of}
use Rattle.raw_network.specs.Runs.{sent_on}
use Rattle.raw_tile_isa.specs.declared.networks.TheConstants.{NETWORK_1, NETWORK_2}
use Rattle.raw_tile_isa.specs.Instruction.{Instruction}
use Rattle.raw_tile_isa.specs.Networks.{taken_from, sends_to}
use Rattle.raw_switch_isa.specs.Instruction.{SwitchInstruction}
use Rattle.raw_switch_isa.specs.Ends.{is_used_input, is_filled, route_source, move_source}
use Rattle.raw_model.specs.declared.marks.Mark.{Mark}
use Rattle.raw_model.specs.declared.marks.Mark.TheVariants.{Trapped}
use Rattle.raw_model.specs.declared.marks.Cause.{Cause}
use Rattle.raw_model.specs.declared.marks.Cause.TheVariants.{Pc}
use Rattle.raw_model.specs.Program.{ProgramSet}
use Rattle.raw_model.specs.Local.{Local, Tile, Switch, Source, Sink}
use Rattle.raw_model.specs.TileTable.{next_instruction}
use Rattle.raw_model.specs.SwitchTable.{source_value}
use Rattle.raw_model.specs.SwitchTable.{next_instruction as next_switch_instruction}
use Rattle.raw_model.specs.Machine.{tile_code, switch_code}

-- one value where the test holds, and else none
abbrev pub once : Bool → ℕ
once test = if test then 1 else 0

-- the end is that to the switch beside a tile or a port
abbrev pub is_near_end : ℕ → Bool
is_near_end end = (end == 4) || (end == 9)

-- how many values a tile's next instruction takes at an end
abbrev pub tile_takes_at : Option Instruction → ℕ → ℕ
tile_takes_at None end = 0
tile_takes_at (Some ins) end =
    if end == 4 then taken_from NETWORK_1 ins
    else (if end == 9 then taken_from NETWORK_2 ins else 0)

-- how many it sends there
abbrev pub tile_sends_at : Option Instruction → ℕ → ℕ
tile_sends_at None end = 0
tile_sends_at (Some ins) end =
    if end == 4 then once (sends_to NETWORK_1 ins)
    else (if end == 9 then once (sends_to NETWORK_2 ins) else 0)

-- how many values a switch's next instruction takes at an end: one for all routes and the move that name it
abbrev pub switch_takes_at : Option SwitchInstruction → ℕ → ℕ
switch_takes_at None end = 0
switch_takes_at (Some ins) end = once (is_used_input ins end)

-- how many it sends there: one where it has a route
abbrev pub switch_sends_at : Option SwitchInstruction → ℕ → ℕ
switch_sends_at None end = 0
switch_sends_at (Some ins) end = once (is_filled ins end)

-- how many values a processor's next row takes at an end
abbrev pub takes_at : ProgramSet → ℕ → Local → ℕ → ℕ
takes_at set p (Tile l) end = tile_takes_at (next_instruction (tile_code set p) l) end
takes_at set p (Switch l) end = switch_takes_at (next_switch_instruction (switch_code set p) l) end
takes_at set p (Source l) end = 0
takes_at set p (Sink l) end = once (is_near_end end)

-- how many it sends there
abbrev pub sends_at : ProgramSet → ℕ → Local → ℕ → ℕ
sends_at set p (Tile l) end = tile_sends_at (next_instruction (tile_code set p) l) end
sends_at set p (Switch l) end = switch_sends_at (next_switch_instruction (switch_code set p) l) end
sends_at set p (Source l) end = once (is_near_end end)
sends_at set p (Sink l) end = 0

-- a load or a store at an unlawful address is why a processor was trapped
abbrev pub is_address_cause : Cause → Bool
is_address_cause Pc = false
is_address_cause _ = true

abbrev pub is_address_trap : Mark → Bool
is_address_trap (Trapped cause) = is_address_cause cause
is_address_trap _ = false

-- a processor is trapped at an unlawful address
abbrev pub is_trapped_at_address : Local → Bool
is_trapped_at_address (Tile l) = is_address_trap l.mark
is_trapped_at_address (Switch l) = is_address_trap l.mark
is_trapped_at_address _ = false

-- one value goes to each wire that is named, and none to any other
pub record SendsOneEach (named : List ℕ) (sent : List Sent) : Type 0 where
  pub one : (w : ℕ) → 0 < count_of w named → length (sent_on w sent) ≡ 1
  pub none : (w : ℕ) → count_of w named ≡ 0 → sent_on w sent ≡ []

-- each value that a switch's instruction names is there: those of its routes, and that of its move
pub record AreGiven (ins : SwitchInstruction) (regs : List ℕ) (given : List (Option ℕ)) : Type 0 where
  pub routes : (output : ℕ) → output < 10 →
      is_some (source_value regs given (route_source ins output)) ≡ is_some (route_source ins output)
  pub move : is_some (source_value regs given (move_source ins)) ≡ is_some (move_source ins)
