-- Where the labels of the programs of a text stand.
use Rattle.std.specs.Prelude.{ℕ, ◌*◌, ◌-◌, List, nat_lt, Option, None, Some, if◌then◌else◌}
use Rattle.std.specs.Option.{option_map}
use Rattle.std.specs.List.{position}
use Rattle.raw_grid.specs.Topology.{Topology, tile_count}
use Rattle.raw_asm.specs.Section.{has_label}
use Rattle.raw_lines.specs.declared.kind.ProgramKind.{ProgramKind}
use Rattle.raw_lines.specs.declared.kind.ProgramKind.TheVariants.{Tile, Switch}
use Rattle.raw_lines.specs.Sections.{sections_in, part_for}
use Rattle.raw_lines.specs.Places.{place_in}

-- where a label stands among the lines of a program: where the first line that has it does
abbrev pub place_among : ProgramKind → List ℕ → List (List (List ℕ)) → Option ℕ
place_among kind name lines = option_map (place_in kind lines) (position (has_label name) lines)

-- the same of the lines of a section and their place, where there is one
abbrev pub place_within : ProgramKind → List ℕ → Option (ℕ × List (List (List ℕ))) → Option ℕ
place_within kind name None = None
place_within kind name (Some part) = place_among kind name part.1

-- in the program of a tile or a switch
abbrev pub place_for : ProgramKind → Topology → List (List (List ℕ)) → ℕ → List ℕ → Option ℕ
place_for kind topo lines tile name = place_within kind name (part_for lines (sections_in lines) kind topo tile)

-- in that of processor p, by its number; a port has none
abbrev pub label_places : Topology → List (List (List ℕ)) → ℕ → List ℕ → Option ℕ
label_places topo lines p name =
    if nat_lt p (tile_count topo) then place_for Tile topo lines p name
    else (if nat_lt p (2 * tile_count topo) then place_for Switch topo lines (p - tile_count topo) name else None)
