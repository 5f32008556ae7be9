-- The values that a firing is given.
use Rattle.std.specs.Prelude.{◌≡◌, ℕ, ◌<◌, Bool, false, Option, Some, None, is_some, List, slice_index_or}
use Rattle.raw_switch_isa.specs.Instruction.{SwitchInstruction}
use Rattle.raw_switch_isa.specs.Ends.{is_used_input}

-- whether the next instruction takes a value from this input
abbrev pub takes_from : Option SwitchInstruction → ℕ → Bool
takes_from None end = false
takes_from (Some ins) end = is_used_input ins end

-- a value is given exactly for each input that the next instruction takes from
pub record IsGivenFor (ins : Option SwitchInstruction) (given : List (Option ℕ)) : Type 0 where
  pub each : (end : ℕ) → end < 10 → is_some (slice_index_or given end None) ≡ takes_from ins end
