-- The table of switch instructions: for each its name, its number in the word, and its operands in the order of the text.
use Rattle.std.specs.Prelude.{ℕ, Bool, true, false, ◌==◌, List, [], ◌∷◌, Option, codes}
use Rattle.std.specs.List.{list_any, find}
use Rattle.std.specs.Str.{bytes_eq}
use Rattle.raw_switch_isa.specs.declared.table.SwitchOp.{SwitchOp}
use Rattle.raw_switch_isa.specs.declared.table.SwitchOp.TheVariants.{Nop, Jump, Beqz, Bnez, Bnezd, Move, Halt}
use Rattle.raw_switch_isa.specs.declared.table.SwitchOperand.{SwitchOperand}
use Rattle.raw_switch_isa.specs.declared.table.SwitchOperand.TheVariants.{Rd, Src, Target}

-- a row of the table
pub record Row : Type 0 where
  pub name : List ℕ
  pub number : ℕ
  pub operands : List SwitchOperand

abbrev row : List ℕ → ℕ → List SwitchOperand → Row
row name number operands = record { name = name; number = number; operands = operands }

-- the row of each operation
abbrev pub row_of : SwitchOp → Row
row_of Nop = row (codes "nop") 0 []
row_of Jump = row (codes "j") 1 (Target ∷ [])
row_of Beqz = row (codes "beqz") 2 (Rd ∷ Target ∷ [])
row_of Bnez = row (codes "bnez") 3 (Rd ∷ Target ∷ [])
row_of Bnezd = row (codes "bnezd") 4 (Rd ∷ Target ∷ [])
row_of Move = row (codes "move") 5 (Rd ∷ Src ∷ [])
row_of Halt = row (codes "halt") 6 []

-- the operations in the order of the table
abbrev pub all_ops : List SwitchOp
all_ops = Nop ∷ Jump ∷ Beqz ∷ Bnez ∷ Bnezd ∷ Move ∷ Halt ∷ []

-- the operation with a name, if there is one
unfoldable pub op_named : List ℕ → Option SwitchOp
op_named name = find (λ op. bytes_eq (row_of op).name name) all_ops

-- the operation with a number, if there is one
unfoldable pub op_with : ℕ → Option SwitchOp
op_with number = find (λ op. (row_of op).number == number) all_ops

-- an operand that stands in the field rd
abbrev pub is_rd : SwitchOperand → Bool
is_rd Rd = true
is_rd _ = false

-- an operand that stands in the field src
abbrev pub is_src : SwitchOperand → Bool
is_src Src = true
is_src _ = false

-- an operand that stands in the field target
abbrev pub is_target : SwitchOperand → Bool
is_target Target = true
is_target _ = false

-- whether such an operand is in the row of an operation
abbrev pub uses : (SwitchOperand → Bool) → SwitchOp → Bool
uses is_field op = list_any is_field (row_of op).operands
