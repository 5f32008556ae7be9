-- What the next row of each kind of processor takes and sends, by the numbers of its ends.
use Rattle.std.specs.Prelude.{◌≡◌, ℕ, ◌+◌, ◌==◌, Option, Some, None, is_some, List, [], ◌∷◌, map, drop, slice_index, slice_index_or, if◌then◌else◌}
use Rattle.std.specs.List.{flat_map}
use Rattle.std.specs.Option.{option_to_list}
use Rattle.raw_tile_isa.specs.Instruction.{Instruction, source_registers, destination_register}
use Rattle.raw_switch_isa.specs.Instruction.{SwitchInstruction}
use Rattle.raw_model.specs.Program.{ProgramSet}
use Rattle.raw_model.specs.Local.{SwitchLocal}
use Rattle.raw_model.specs.SwitchTable.{switch_row, next_instruction}
use Rattle.raw_model.specs.Machine.{switch_code}
use Rattle.raw_fabric_rule.specs.declared.layout.TheConstants.{END_COUNT, INPUT_P1, INPUT_P2, OUTPUT_P1, OUTPUT_P2}
use Rattle.raw_fabric_rule.specs.ByEnds.{producer, producer_end, consumer, consumer_end, wire_at}
use Rattle.raw_switch_isa.specs.Ends.{ends, is_used_input, inputs_of, outputs_of}

-- the input at which a tile takes what it reads in a register, and the output at which it sends what it writes there
abbrev pub source_end : ℕ → List ℕ
source_end register = if register == 24 then INPUT_P1 ∷ [] else (if register == 25 then INPUT_P2 ∷ [] else [])

abbrev pub destination_end : ℕ → List ℕ
destination_end register = if register == 24 then OUTPUT_P1 ∷ [] else (if register == 25 then OUTPUT_P2 ∷ [] else [])

-- the ends of a tile's next instruction: that of rs before that of rt
abbrev pub tile_needs : Option Instruction → List ℕ
tile_needs None = []
tile_needs (Some ins) = flat_map source_end (source_registers ins)

abbrev pub tile_gives : Option Instruction → List ℕ
tile_gives None = []
tile_gives (Some ins) = flat_map destination_end (option_to_list (destination_register ins))

-- the ends of a switch's next instruction, each once, by rising number
abbrev pub switch_needs : Option SwitchInstruction → List ℕ
switch_needs None = []
switch_needs (Some ins) = inputs_of ins

abbrev pub switch_gives : Option SwitchInstruction → List ℕ
switch_gives None = []
switch_gives (Some ins) = map (λ end. END_COUNT + end) (outputs_of ins)

-- an end, where there is a value or a wire for it
abbrev pub end_if : ℕ → Option ℕ → List ℕ
end_if end value = if is_some value then end ∷ [] else []

-- the values for the inputs of a switch, from those that were taken at the inputs in this order that its instruction names
abbrev pub handed_at : SwitchInstruction → List ℕ → List ℕ → List (Option ℕ)
handed_at ins [] values = []
handed_at ins (end ∷ others) values =
    if is_used_input ins end then Some (slice_index values 0) ∷ handed_at ins others (drop 1 values)
    else None ∷ handed_at ins others values

abbrev pub handed_to : Option SwitchInstruction → List ℕ → List (Option ℕ)
handed_to None values = []
handed_to (Some ins) values = handed_at ins ends values

-- the outputs of a switch that a row fills, and the values sent there, from the values by output
abbrev pub outputs_filled : List (Option ℕ) → List ℕ
outputs_filled values = flat_map (λ end. end_if (END_COUNT + end) (slice_index_or values end None)) ends

abbrev pub values_filled : List (Option ℕ) → List ℕ
values_filled values = flat_map (λ end. option_to_list (slice_index_or values end None)) ends

-- wire w leads from output o of processor p to input i of processor q
pub record IsWireOf (set : ProgramSet) (w p o q i : ℕ) : Type 0 where
  pub producer_is : producer set w ≡ p
  pub producer_end_is : producer_end set w ≡ END_COUNT + o
  pub consumer_is : consumer set w ≡ q
  pub consumer_end_is : consumer_end set w ≡ i
  pub from_is : wire_at set p (END_COUNT + o) ≡ w
  pub to_is : wire_at set q i ≡ w

-- the values given by output to a switch's row with these operands
abbrev pub sent_by_end : ProgramSet → ℕ → SwitchLocal → List ℕ → List (Option ℕ)
sent_by_end set p l values = (switch_row (switch_code set p) l (handed_to (next_instruction (switch_code set p) l) values)).sent
