-- The word of a switch instruction.
use Rattle.std.specs.Prelude.{◌≡◌, ℕ, ◌+◌, ◌-◌, ◌*◌, ◌/◌, ◌%◌, ◌^◌, Bool, List, sum_by, slice_index, if◌then◌else◌}
use Rattle.raw_switch_isa.specs.Table.{row_of}
use Rattle.raw_switch_isa.specs.Instruction.{SwitchInstruction, IsSwitchIns}
use Rattle.raw_switch_isa.specs.Ends.{ends}

-- the route codes in their places: three bits for each output, the first output's at 35 to 33 and the last one's at 8 to 6
unfoldable pub routes_word : List ℕ → ℕ
routes_word routes = sum_by (λ output. slice_index routes output * 2 ^ (33 - 3 * output)) ends

-- the word of an instruction: each field's value times the power of two of the field's lowest bit
unfoldable pub code_of : SwitchInstruction → ℕ
code_of ins =
    (row_of ins.op).number * 2 ^ 60 + ins.rd * 2 ^ 58 + ins.src * 2 ^ 54 + ins.target * 2 ^ 38
    + ins.rsel * 2 ^ 36 + routes_word ins.routes

-- the word encodes the instruction, which keeps the rules
pub record SwitchCode (ins : SwitchInstruction) (word : ℕ) : Type 0 where
  pub rules : IsSwitchIns ins
  pub code : code_of ins ≡ word

-- the number below a limit that stands in a word from a bit on, or 0 where the field is not used
abbrev pub bits_where : Bool → ℕ → ℕ → ℕ → ℕ
bits_where used word place limit = if used then word / 2 ^ place % limit else 0

-- the route code that stands in a word for an output
abbrev pub route_at : ℕ → ℕ → ℕ
route_at word output = word / 2 ^ (33 - 3 * output) % 8
