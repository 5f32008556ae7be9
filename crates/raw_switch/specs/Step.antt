-- An instruction made for stepping.
use Rattle.std.specs.Prelude.{◌≡◌, ℕ, ◌<◌, Option, None, List, slice_index_or, IfSome}
use Rattle.raw_switch_isa.specs.Instruction.{SwitchInstruction}
use Rattle.raw_switch_isa.specs.declared.instruction.SwitchSource.{SwitchSource}
use Rattle.raw_switch_isa.specs.Ends.{has_end, is_used_input, is_filled, route_source, IsSource}

-- these words have the ends that an instruction takes from and sends to, and these are the sources of its routes, by output
pub record AreItsEnds (ins : SwitchInstruction) (inputs outputs : ℕ) (sources : List (Option SwitchSource)) : Type 0 where
  pub takes : (end : ℕ) → has_end inputs end ≡ is_used_input ins end
  pub sends : (end : ℕ) → has_end outputs end ≡ is_filled ins end
  pub routes : (output : ℕ) → output < 10 → slice_index_or sources output None ≡ route_source ins output
  pub within : (output : ℕ) → output < 10 → IfSome (route_source ins output) IsSource
