-- The inputs and the outputs of a switch that an instruction names.
use Rattle.std.specs.Prelude.{ℕ, ◌+◌, ◌-◌, ◌*◌, ◌/◌, ◌<◌, Bool, false, ◌||◌, ◌==◌, nat_lt, List, filter, Option, Some, None, is_some, slice_index, if◌then◌else◌}
use Rattle.std.specs.List.{list_any, range_with_len}
use Rattle.std.specs.Int.{bit_at}
use Rattle.raw_switch_isa.specs.declared.table.SwitchOp.{SwitchOp}
use Rattle.raw_switch_isa.specs.declared.table.SwitchOp.TheVariants.{Move}
use Rattle.raw_switch_isa.specs.declared.instruction.SwitchSource.{SwitchSource}
use Rattle.raw_switch_isa.specs.declared.instruction.SwitchSource.TheVariants.{Register, Input}
use Rattle.raw_switch_isa.specs.Instruction.{SwitchInstruction}

-- the end indices in rising order: N, E, S, W, P of network 1 are 0 to 4, those of network 2 are 5 to 9
unfoldable pub ends : List ℕ
ends = range_with_len 0 10

-- what a route code of an output stands for: nothing, the register rsel, or an input of the output's own network
abbrev pub coded_source : ℕ → ℕ → ℕ → Option SwitchSource
coded_source rsel output code =
    if code == 0 then None
    else (if code == 6 then Some (Register rsel)
    else Some (Input (5 * (output / 5) + (code - 1))))

-- what an output sends, by its end index: nothing, the value of an input or that of a register
abbrev pub route_source : SwitchInstruction → ℕ → Option SwitchSource
route_source ins output = coded_source ins.rsel output (slice_index ins.routes output)

-- what the field src stands for: below 4 a register, from 4 on an input
abbrev pub coded_move : SwitchOp → ℕ → Option SwitchSource
coded_move Move src = Some (if nat_lt src 4 then Register src else Input (src - 4))
coded_move _ src = None

-- what a move takes its value from, and nothing for any other operation
abbrev pub move_source : SwitchInstruction → Option SwitchSource
move_source ins = coded_move ins.op ins.src

-- a source names a register of a switch or an input
abbrev pub IsSource : SwitchSource → Type 0
IsSource (Register register) = register < 4
IsSource (Input input) = input < 10

-- whether a value comes from this input
abbrev pub is_from_input : ℕ → Option SwitchSource → Bool
is_from_input end (Some (Input input)) = input == end
is_from_input end _ = false

-- whether a route or the move names this input
abbrev pub is_used_input : SwitchInstruction → ℕ → Bool
is_used_input ins end = is_from_input end (move_source ins) || list_any (λ output. is_from_input end (route_source ins output)) ends

-- whether this output has a route
abbrev pub is_filled : SwitchInstruction → ℕ → Bool
is_filled ins output = is_some (route_source ins output)

-- the inputs that an instruction takes from, by rising end index
abbrev pub inputs_of : SwitchInstruction → List ℕ
inputs_of ins = filter (is_used_input ins) ends

-- the outputs that an instruction sends to, by rising end index
abbrev pub outputs_of : SwitchInstruction → List ℕ
outputs_of ins = filter (is_filled ins) ends

-- whether a word of ends has an end: the bit of the end's index is 1
abbrev pub has_end : ℕ → ℕ → Bool
has_end word end = bit_at word end == 1
