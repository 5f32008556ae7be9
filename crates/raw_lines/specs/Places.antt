-- Where the lines of a section stand in its program.
use Rattle.std.specs.Prelude.{ℕ, List, [], take, sum_by, slice_index_or, Option, Some, None, if◌then◌else◌}
use Rattle.raw_asm.specs.Names.{is_name, label_of, statement_of}
use Rattle.raw_asm.specs.Section.{size_of}
use Rattle.raw_tile_asm.specs.Language.{tile_language}
use Rattle.raw_switch_asm.specs.Language.{statement_size}
use Rattle.raw_lines.specs.declared.kind.ProgramKind.{ProgramKind}
use Rattle.raw_lines.specs.declared.kind.ProgramKind.TheVariants.{Tile, Switch}

-- how many instructions a line gives; that of a switch gives as many whichever ends have wires
abbrev pub size_in : ProgramKind → List (List ℕ) → ℕ
size_in Tile line = size_of tile_language line
size_in Switch line = statement_size (statement_of line)

-- the number of the first instruction of line k, and what a label of this line stands for
abbrev pub place_in : ProgramKind → List (List (List ℕ)) → ℕ → ℕ
place_in kind lines k = sum_by (size_in kind) (take k lines)

-- the label that a line defines, by what stands before its ':'
abbrev pub label_named : Option (List ℕ) → Option (List ℕ)
label_named None = None
label_named (Some name) = if is_name name then Some name else None

abbrev pub label_in : List (List ℕ) → Option (List ℕ)
label_in line = label_named (label_of line)

-- the label of line k, where it has one
abbrev pub label_at : List (List (List ℕ)) → ℕ → Option (List ℕ)
label_at lines k = label_in (slice_index_or lines k [])

-- how many instructions line k gives
abbrev pub size_at : ProgramKind → List (List (List ℕ)) → ℕ → ℕ
size_at kind lines k = size_in kind (slice_index_or lines k [])
