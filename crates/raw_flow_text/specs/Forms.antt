-- How a line of a flow text reads by itself.
use Rattle.std.specs.Prelude.{ℕ, ◌==◌, ◌&&◌, List, [], ◌∷◌, length, drop, codes, Option, Some, None, slice_index_or, if◌then◌else◌}
use Rattle.std.specs.Str.{bytes_eq}
use Rattle.raw_asm.specs.Names.{is_name}
use Rattle.raw_asm.specs.NameTable.{named_in}
use Rattle.raw_set_text.specs.Forms.{◌>>=◌, number_at}
use Rattle.raw_flow.specs.declared.node.FlowOp.{FlowOp}
use Rattle.raw_flow.specs.declared.node.FlowOp.TheVariants as op
use Rattle.raw_flow_text.specs.declared.word.Word.{Word}
use Rattle.raw_flow_text.specs.declared.word.Word.TheVariants as word
use Rattle.raw_flow_text.specs.Statement.{Statement}
use Rattle.raw_flow_text.specs.Statement.Statement.{Grid, Input, Const, Apply, Out}

-- how the first word of a line is written
abbrev pub word_name : Word → List ℕ
word_name word.Grid = codes "grid"
word_name word.Input = codes "input"
word_name word.Def = codes "def"
word_name word.Out = codes "out"

abbrev pub all_words : List Word
all_words = word.Grid ∷ word.Input ∷ word.Def ∷ word.Out ∷ []

-- how an operation is written
abbrev pub op_name : FlowOp → List ℕ
op_name op.Add = codes "add"
op_name op.Sub = codes "sub"
op_name op.Mul = codes "mul"
op_name op.MulHigh = codes "mulhi"
op_name op.MulHighUnsigned = codes "mulhu"
op_name op.And = codes "and"
op_name op.Or = codes "or"
op_name op.Xor = codes "xor"
op_name op.Nor = codes "nor"
op_name op.Less = codes "slt"
op_name op.LessUnsigned = codes "sltu"
op_name op.ShiftLeft = codes "sll"
op_name op.ShiftRight = codes "srl"
op_name op.ShiftRightSigned = codes "sra"

abbrev pub all_ops : List FlowOp
all_ops =
    op.Add ∷ op.Sub ∷ op.Mul ∷ op.MulHigh ∷ op.MulHighUnsigned ∷ op.And ∷ op.Or ∷ op.Xor ∷ op.Nor ∷ op.Less ∷ op.LessUnsigned ∷ op.ShiftLeft
    ∷ op.ShiftRight ∷ op.ShiftRightSigned ∷ []

-- the operand at a place, where it is a name: a letter or '_', followed by letters, '_' and digits
unfoldable pub name_at : List (List ℕ) → ℕ → Option (List ℕ)
name_at operands i = if is_name (slice_index_or operands i []) then Some (slice_index_or operands i []) else None

-- the operation that the operand at a place names
unfoldable pub op_at : List (List ℕ) → ℕ → Option FlowOp
op_at operands i = named_in op_name all_ops (slice_index_or operands i [])

-- the rest of a line that begins with `grid`: C R
unfoldable pub grid_form : List (List ℕ) → Option Statement
grid_form operands =
    if length operands == 2 then (number_at operands 0 >>= λ columns. number_at operands 1 >>= λ rows. Some (Grid columns rows)) else None

-- `input`: NAME W
unfoldable pub input_form : List (List ℕ) → Option Statement
input_form operands = if length operands == 2 then (name_at operands 0 >>= λ name. number_at operands 1 >>= λ word. Some (Input name word)) else None

-- `def` with three operands: NAME const W
unfoldable pub const_form : List (List ℕ) → Option Statement
const_form operands =
    if (length operands == 3) && bytes_eq (slice_index_or operands 1 []) (codes "const")
    then (name_at operands 0 >>= λ name. number_at operands 2 >>= λ word. Some (Const name word)) else None

-- `def` with four: NAME OP A B
unfoldable pub apply_form : List (List ℕ) → Option Statement
apply_form operands =
    if length operands == 4
    then (name_at operands 0 >>= λ name. op_at operands 1 >>= λ op. name_at operands 2 >>= λ a. name_at operands 3 >>= λ b. Some (Apply name op a b))
    else None

-- `out`: NAME
unfoldable pub out_form : List (List ℕ) → Option Statement
out_form operands = if length operands == 1 then (name_at operands 0 >>= λ name. Some (Out name)) else None

-- what a word says with these operands
abbrev pub worded_form : Word → List (List ℕ) → Option Statement
worded_form word.Grid operands = grid_form operands
worded_form word.Input operands = input_form operands
worded_form word.Def operands = if length operands == 3 then const_form operands else apply_form operands
worded_form word.Out operands = out_form operands

-- a line that wants the value of this name
abbrev pub out_line : List ℕ → List (List ℕ)
out_line name = codes "out" ∷ name ∷ []

-- what a line says; nothing where its first word is unknown or the line is of another form
unfoldable pub line_statement : List (List ℕ) → Option Statement
line_statement line = named_in word_name all_words (slice_index_or line 0 []) >>= λ word. worded_form word (drop 1 line)
