-- What is wrong with a line of a flow text behind what the lines before it say, and behind the last line.
use Rattle.std.specs.Prelude.{ℕ, Bool, false, not, ◌&&◌, ◌||◌, ◌==◌, List, [], length, codes, Option, Some, None, nat_lt, slice_index_or, if◌then◌else◌}
use Rattle.std.specs.Option.{is_some, is_none}
use Rattle.std.specs.Str.{bytes_eq}
use Rattle.raw_asm.specs.declared.kind.AsmKind.TheVariants.{UnknownName}
use Rattle.raw_set_text.specs.declared.kind.SetKind.{SetKind}
use Rattle.raw_set_text.specs.declared.kind.SetKind.TheVariants.{Missing, BadLine, BadSize, Repeated, OverLimit, Asm}
use Rattle.raw_set_text.specs.Faults.{fault_if, is_within}
use Rattle.raw_grid.specs.declared.limits.TheConstants.{MAX_SIZE}
use Rattle.raw_flow.specs.declared.limits.TheConstants.{MAX_NODES}
use Rattle.raw_flow_text.specs.Statement.{Statement}
use Rattle.raw_flow_text.specs.Statement.Statement.{Grid, Input, Const, Apply, Out}
use Rattle.raw_flow_text.specs.Forms.{line_statement}
use Rattle.raw_flow_text.specs.Flows.{size_in, names_in, number_in, nodes_in, outs_in}

-- the columns or the rows are not 1 to 8
abbrev pub is_bad_size : Statement → Bool
is_bad_size (Grid columns rows) = not (is_within 1 MAX_SIZE columns && is_within 1 MAX_SIZE rows)
is_bad_size _ = false

-- one of these statements defines the name
abbrev pub has_name : List Statement → List ℕ → Bool
has_name said name = is_some (number_in (names_in said) name)

-- these statements give the grid already, or define the name that is defined
abbrev pub is_repeated : List Statement → Statement → Bool
is_repeated said (Grid columns rows) = is_some (size_in said)
is_repeated said (Input name word) = has_name said name
is_repeated said (Const name word) = has_name said name
is_repeated said (Apply name op a b) = has_name said name
is_repeated said (Out name) = false

-- a name is used that none of these statements defines
abbrev pub is_unknown : List Statement → Statement → Bool
is_unknown said (Apply name op a b) = not (has_name said a && has_name said b)
is_unknown said (Out name) = not (has_name said name)
is_unknown said _ = false

-- what is wrong with a statement behind these, in the order in which faults are told
unfoldable pub statement_fault : List Statement → Statement → Option SetKind
statement_fault said statement =
    fault_if (is_bad_size statement) BadSize
    (fault_if (is_repeated said statement) Repeated
    (fault_if (is_unknown said statement) (Asm UnknownName) None))

-- the statement gives the grid another size than the one that is wanted, where one is
abbrev pub is_unwanted : Option (ℕ × ℕ) → Statement → Bool
is_unwanted (Some size) (Grid columns rows) = not ((columns == size.0) && (rows == size.1))
is_unwanted _ _ = false

-- the fault of what a line says, or of a line of another form
abbrev pub form_fault : Option (ℕ × ℕ) → List Statement → Option Statement → Option SetKind
form_fault wanted said None = Some BadLine
form_fault wanted said (Some statement) = fault_if (is_unwanted wanted statement) BadSize (statement_fault said statement)

-- no statement gives the grid, and the line does not begin with `grid`: so is the first line with tokens, where it is another
abbrev pub is_missing : List Statement → List (List ℕ) → Bool
is_missing said line = is_none (size_in said) && not (bytes_eq (slice_index_or line 0 []) (codes "grid"))

-- what is wrong with a line behind these statements, where the grid is to have this size, or any
unfoldable pub line_fault : Option (ℕ × ℕ) → List Statement → List (List ℕ) → Option SetKind
line_fault wanted said line =
    if length line == 0 then None
    else (if is_missing said line then Some Missing
    else form_fault wanted said (line_statement line))

-- what is wrong behind the last line: there is no grid or no value is wanted, or there are too many nodes
unfoldable pub end_fault : List Statement → Option SetKind
end_fault said =
    fault_if (is_none (size_in said) || (length (outs_in said) == 0)) Missing
    (fault_if (nat_lt MAX_NODES (length (nodes_in said))) OverLimit None)
