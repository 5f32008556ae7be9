-- The text of a program: one line for each instruction.
use Rattle.std.specs.Prelude.{ℕ, ◌+◌, ◌-◌, ◌^◌, map, List, [], ◌∷◌, ◌++◌, codes, nat_lt, nat_le, if◌then◌else◌}
use Rattle.std.specs.Fmt.{decimal}
use Rattle.raw_text.specs.Lines.{written_lines, joined}
use Rattle.raw_text.specs.Number.{hex_digits}
use Rattle.raw_tile_isa.specs.declared.table.Operand.{Operand}
use Rattle.raw_tile_isa.specs.declared.table.Operand.TheVariants.{Rd, Rs, Rt, Shift, Signed, Unsigned, Branch, Jump, Memory}
use Rattle.raw_tile_isa.specs.Table.{row_of}
use Rattle.raw_tile_isa.specs.Instruction.{Instruction}

-- a register
abbrev pub register_text : ℕ → List ℕ
register_text r = codes "$" ++ decimal r

-- 16 bits as a signed number, in decimal
abbrev pub signed_text : ℕ → List ℕ
signed_text imm = if nat_lt imm (2 ^ 15) then decimal imm else codes "-" ++ decimal (2 ^ 16 - imm)

-- 16 bits in four hexadecimal digits
abbrev pub hex_text : ℕ → List ℕ
hex_text n = codes "0x" ++ hex_digits 4 n

-- the number of the instruction to which a branch goes, which may be below 0
abbrev pub branch_text : ℕ → ℕ → List ℕ
branch_text place imm =
    if nat_lt imm (2 ^ 15) then decimal (place + 1 + imm)
    else (if nat_le (2 ^ 16) (place + 1 + imm) then decimal (place + 1 + imm - 2 ^ 16)
    else codes "-" ++ decimal (2 ^ 16 - (place + 1 + imm)))

-- an operand of the instruction at a place
abbrev pub operand_text : Instruction → ℕ → Operand → List ℕ
operand_text i place Rd = register_text i.rd
operand_text i place Rs = register_text i.rs
operand_text i place Rt = register_text i.rt
operand_text i place Shift = decimal i.sh
operand_text i place Signed = signed_text i.imm
operand_text i place Unsigned = hex_text i.imm
operand_text i place Branch = branch_text place i.imm
operand_text i place Jump = decimal i.target
operand_text i place Memory = signed_text i.imm ++ (codes "(" ++ (register_text i.rs ++ codes ")"))

-- the operands of the instruction at a place
abbrev pub operand_texts : Instruction → ℕ → List (List ℕ)
operand_texts i place = map (operand_text i place) (row_of i.op).operands

-- a name, and behind a blank its operands with a comma and a blank between them
abbrev pub named_text : List ℕ → List (List ℕ) → List ℕ
named_text name [] = name
named_text name (operand ∷ operands) = name ++ 32 ∷ joined (codes ", ") (operand ∷ operands)

-- the line of the instruction at a place
abbrev pub line_text : Instruction → ℕ → List ℕ
line_text i place = named_text (row_of i.op).name (operand_texts i place)

-- the lines of instructions from a place on
abbrev pub listed_lines : ℕ → List Instruction → List (List ℕ)
listed_lines place [] = []
listed_lines place (i ∷ more) = line_text i place ∷ listed_lines (place + 1) more

-- the listing of a program
unfoldable pub listing : List Instruction → List ℕ
listing program = written_lines (listed_lines 0 program)
