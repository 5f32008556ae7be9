-- The texts that tell the lines and the labels of all programs of a text.
use Rattle.std.specs.Prelude.{ℕ, ◌+◌, ◌==◌, List, [], ◌++◌, length, codes, decimal, Option, Some, None, if◌then◌else◌}
use Rattle.std.specs.List.{flat_map, range_with_len}
use Rattle.raw_grid.specs.Topology.{Topology, tile_count, switch_number}
use Rattle.raw_state_text.specs.Parts.{place_text}
use Rattle.raw_lines.specs.declared.kind.ProgramKind.{ProgramKind}
use Rattle.raw_lines.specs.declared.kind.ProgramKind.TheVariants.{Tile, Switch}
use Rattle.raw_lines.specs.declared.section.ProgramSection.{ProgramSection}
use Rattle.raw_lines.specs.Sections.{sections_in, part_for}
use Rattle.raw_lines.specs.Places.{place_in, size_at, label_at}

-- ---- the lines of the command `lines`

abbrev pub kind_text : ProgramKind → List ℕ
kind_text Tile = codes "tile"
kind_text Switch = codes "switch"

-- a label behind the word for it
abbrev pub label_text : Option (List ℕ) → List ℕ
label_text None = []
label_text (Some name) = codes " label " ++ name

-- the label of line k, where that stands at instruction i
abbrev pub label_at_place : ProgramKind → List (List (List ℕ)) → ℕ → ℕ → List ℕ
label_at_place kind lines i k = if place_in kind lines k == i then label_text (label_at lines k) else []

-- the labels at instruction i, in the order of their lines
abbrev pub labels_at : ProgramKind → List (List (List ℕ)) → ℕ → List ℕ
labels_at kind lines i = flat_map (label_at_place kind lines i) (range_with_len 0 (length lines))

-- that line k gives instruction i, and the labels there. `name` says whose program it is; the lines stand in the text from a place on, and
-- are numbered from 1 there
abbrev pub told : List ℕ → ℕ → ℕ → ℕ → List ℕ → List ℕ
told name from k i labels = name ++ decimal i ++ codes " line " ++ decimal (from + k + 1) ++ labels ++ codes "\n"

-- the j-th instruction of line k
abbrev pub instruction_text : ProgramKind → List ℕ → ℕ → List (List (List ℕ)) → ℕ → ℕ → List ℕ
instruction_text kind name from lines k j = told name from k (place_in kind lines k + j) (labels_at kind lines (place_in kind lines k + j))

-- all instructions of line k
abbrev pub line_text : ProgramKind → List ℕ → ℕ → List (List (List ℕ)) → ℕ → List ℕ
line_text kind name from lines k = flat_map (instruction_text kind name from lines k) (range_with_len 0 (size_at kind lines k))

-- the labels behind the last instruction, where there are any
abbrev pub last_text : List ℕ → ℕ → List ℕ → List ℕ
last_text name place labels = if length labels == 0 then [] else name ++ decimal place ++ labels ++ codes "\n"

-- all instructions and labels of a section
abbrev pub section_text : ProgramKind → List ℕ → ℕ → List (List (List ℕ)) → List ℕ
section_text kind name from lines =
    flat_map (line_text kind name from lines) (range_with_len 0 (length lines))
    ++ last_text name (place_in kind lines (length lines)) (labels_at kind lines (place_in kind lines (length lines)))

-- the name of a tile or a switch
abbrev pub name_of : ProgramKind → Topology → ℕ → List ℕ
name_of kind topo tile = kind_text kind ++ codes " " ++ place_text topo tile ++ codes " "

-- what is told of some lines and their place, where there are any
abbrev pub told_of : (ℕ → List (List (List ℕ)) → List ℕ) → Option (ℕ × List (List (List ℕ))) → List ℕ
told_of tell None = []
told_of tell (Some part) = tell part.0 part.1

-- the program of a tile or a switch, whose section is among these
abbrev pub program_text : ProgramKind → Topology → List (List (List ℕ)) → List ProgramSection → ℕ → List ℕ
program_text kind topo lines sections tile = told_of (section_text kind (name_of kind topo tile)) (part_for lines sections kind topo tile)

-- the programs of all tiles, or of all switches
abbrev pub programs_text : ProgramKind → Topology → List (List (List ℕ)) → List ℕ
programs_text kind topo lines = flat_map (program_text kind topo lines (sections_in lines)) (range_with_len 0 (tile_count topo))

-- the whole text of `lines`
unfoldable pub lines_text : Topology → List (List (List ℕ)) → List ℕ
lines_text topo lines = programs_text Tile topo lines ++ programs_text Switch topo lines

-- ---- the lines of a trace

-- that a label stands at instruction i of processor p
abbrev pub label_line : ℕ → ℕ → Option (List ℕ) → List ℕ
label_line p i None = []
label_line p i (Some name) = codes "label " ++ decimal p ++ codes " " ++ decimal i ++ codes " " ++ name ++ codes "\n"

-- the labels of a section
abbrev pub label_lines : ProgramKind → ℕ → List (List (List ℕ)) → List ℕ
label_lines kind p lines = flat_map (λ k. label_line p (place_in kind lines k) (label_at lines k)) (range_with_len 0 (length lines))

-- that line k gives instruction i of processor p
abbrev pub number_line : ℕ → ℕ → ℕ → ℕ → List ℕ
number_line p from k i = codes "line " ++ decimal p ++ codes " " ++ decimal i ++ codes " " ++ decimal (from + k + 1) ++ codes "\n"

-- all instructions of line k
abbrev pub numbers_of_line : ProgramKind → ℕ → ℕ → List (List (List ℕ)) → ℕ → List ℕ
numbers_of_line kind p from lines k = flat_map (λ j. number_line p from k (place_in kind lines k + j)) (range_with_len 0 (size_at kind lines k))

-- all instructions of a section
abbrev pub number_lines : ProgramKind → ℕ → ℕ → List (List (List ℕ)) → List ℕ
number_lines kind p from lines = flat_map (numbers_of_line kind p from lines) (range_with_len 0 (length lines))

-- the number of a tile or a switch among the processors
abbrev pub processor_of : ProgramKind → Topology → ℕ → ℕ
processor_of Tile topo tile = tile
processor_of Switch topo tile = switch_number topo tile

-- the labels of the program of a tile or a switch, whose section is among these, and the lines of its instructions
abbrev pub labels_of : ProgramKind → Topology → List (List (List ℕ)) → List ProgramSection → ℕ → List ℕ
labels_of kind topo lines sections tile = told_of (λ from part. label_lines kind (processor_of kind topo tile) part) (part_for lines sections kind topo tile)

abbrev pub numbers_of : ProgramKind → Topology → List (List (List ℕ)) → List ProgramSection → ℕ → List ℕ
numbers_of kind topo lines sections tile = told_of (number_lines kind (processor_of kind topo tile)) (part_for lines sections kind topo tile)

-- the labels of all tiles, or of all switches, and the lines of their instructions
abbrev pub all_labels : ProgramKind → Topology → List (List (List ℕ)) → List ℕ
all_labels kind topo lines = flat_map (labels_of kind topo lines (sections_in lines)) (range_with_len 0 (tile_count topo))

abbrev pub all_numbers : ProgramKind → Topology → List (List (List ℕ)) → List ℕ
all_numbers kind topo lines = flat_map (numbers_of kind topo lines (sections_in lines)) (range_with_len 0 (tile_count topo))

-- what a trace tells of a text
unfoldable pub sources_text : Topology → List (List (List ℕ)) → List ℕ
sources_text topo lines = all_labels Tile topo lines ++ all_labels Switch topo lines ++ all_numbers Tile topo lines ++ all_numbers Switch topo lines
