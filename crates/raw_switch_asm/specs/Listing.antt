-- The text of a program: one line for each instruction.
use Rattle.std.specs.Prelude.{ℕ, ◌-◌, ◌%◌, nat_lt, List, [], ◌∷◌, ◌++◌, map, codes, Option, Some, None, slice_index, if◌then◌else◌}
use Rattle.std.specs.List.{flat_map}
use Rattle.std.specs.Fmt.{decimal}
use Rattle.raw_text.specs.Lines.{written_lines}
use Rattle.raw_switch_isa.specs.declared.table.SwitchOperand.{SwitchOperand}
use Rattle.raw_switch_isa.specs.declared.table.SwitchOperand.TheVariants.{Rd, Src, Target}
use Rattle.raw_switch_isa.specs.declared.instruction.SwitchSource.{SwitchSource}
use Rattle.raw_switch_isa.specs.declared.instruction.SwitchSource.TheVariants.{Register, Input}
use Rattle.raw_switch_isa.specs.Table.{row_of}
use Rattle.raw_switch_isa.specs.Instruction.{SwitchInstruction}
use Rattle.raw_switch_isa.specs.Ends.{ends, route_source}
use Rattle.raw_switch_asm.specs.Letters.{sides}

-- 'r' and the number of the register
abbrev pub register_text : ℕ → List ℕ
register_text register = codes "r" ++ decimal register

-- the network of an end, with its ':'
abbrev pub network_text : ℕ → List ℕ
network_text end = if nat_lt end 5 then codes "1:" else codes "2:"

-- the letter of the side of an end
abbrev pub side_letter : ℕ → ℕ
side_letter end = slice_index sides (end % 5)

-- the network and the side of an end
abbrev pub end_text : ℕ → List ℕ
end_text end = network_text end ++ side_letter end ∷ []

-- what a move takes its value from, by the field src
abbrev pub move_text : ℕ → List ℕ
move_text src = if nat_lt src 4 then register_text src else end_text (src - 4)

-- an operand of an instruction
abbrev pub operand_text : SwitchInstruction → SwitchOperand → List ℕ
operand_text ins Rd = register_text ins.rd
operand_text ins Src = move_text ins.src
operand_text ins Target = decimal ins.target

-- operands, each behind a comma and a blank
abbrev pub more_operands : SwitchInstruction → List SwitchOperand → List ℕ
more_operands ins operands = flat_map (λ operand. codes ", " ++ operand_text ins operand) operands

-- operands behind a blank, with a comma and a blank between each two
abbrev pub operands_text : SwitchInstruction → List SwitchOperand → List ℕ
operands_text ins [] = []
operands_text ins (operand ∷ operands) = codes " " ++ operand_text ins operand ++ more_operands ins operands

-- what a route takes its value from: the side of an input on its own network, or a register
abbrev pub source_text : SwitchSource → List ℕ
source_text (Register register) = register_text register
source_text (Input input) = side_letter input ∷ []

-- a route to an output
abbrev pub route_text : ℕ → SwitchSource → List ℕ
route_text output source = network_text output ++ (source_text source ++ (62 ∷ side_letter output ∷ []))

-- the route of an output behind a blank, where it has one
abbrev pub routed_text : ℕ → Option SwitchSource → List ℕ
routed_text output None = []
routed_text output (Some source) = codes " " ++ route_text output source

-- the routes of an instruction in the order of the end indices
abbrev pub routes_text : SwitchInstruction → List ℕ
routes_text ins = flat_map (λ output. routed_text output (route_source ins output)) ends

-- the line of an instruction: its name, its operands and its routes
unfoldable pub line_text : SwitchInstruction → List ℕ
line_text ins = (row_of ins.op).name ++ operands_text ins (row_of ins.op).operands ++ routes_text ins

-- the lines of a program, each with a newline after it
unfoldable pub listing : List SwitchInstruction → List ℕ
listing code = written_lines (map line_text code)
