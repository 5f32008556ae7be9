-- What is wrong with a line of a plan, after what the lines before it declare.
use Rattle.std.specs.Prelude.{ℕ, ◌∷◌, Bool, false, not, ◌&&◌, ◌==◌, List, [], length, map, Option, Some, None, nat_lt, if◌then◌else◌}
use Rattle.std.specs.List.{list_all}
use Rattle.raw_grid.specs.declared.limits.TheConstants.{MAX_SIZE}
use Rattle.raw_grid.specs.Topology.{Topology, without_ports, tile_number}
use Rattle.raw_set_text.specs.declared.kind.SetKind.{SetKind}
use Rattle.raw_set_text.specs.declared.kind.SetKind.TheVariants.{Missing, BadLine, BadSize, OffGrid, Repeated}
use Rattle.raw_set_text.specs.Faults.{is_within, are_some, fault_if}
use Rattle.raw_route.specs.Refusals.{has_twice}
use Rattle.raw_plan_text.specs.declared.tile.Tile.{Tile}
use Rattle.raw_plan_text.specs.Forms.{Sent, Entry, is_grid, line_entry}
use Rattle.raw_plan_text.specs.Forms.Entry.{Grid, Send}

-- the grid that the first of the entries declares
abbrev pub grid_of : List Entry → Topology
grid_of (Grid columns rows ∷ entries) = without_ports columns rows
grid_of entries = without_ports 0 0

-- the grid has this tile
abbrev pub is_inside : Topology → Tile → Bool
is_inside grid tile = nat_lt tile.x grid.cols && nat_lt tile.y grid.rows

-- its number
abbrev pub number_in : Topology → Tile → ℕ
number_in grid tile = tile_number grid tile.x tile.y

-- the numbers of the tiles to which a word is sent
abbrev pub targets_in : Topology → Sent → List ℕ
targets_in grid sent = map (number_in grid) sent.to

-- the columns and the rows are 1 to 8
abbrev pub is_size : ℕ → ℕ → Bool
is_size columns rows = is_within 1 MAX_SIZE columns && is_within 1 MAX_SIZE rows

-- they are not
abbrev pub is_bad_size : Entry → Bool
is_bad_size (Grid columns rows) = not (is_size columns rows)
is_bad_size (Send sent) = false

-- the grid lacks one of the tiles
abbrev pub is_off_grid : Topology → Entry → Bool
is_off_grid grid (Grid columns rows) = false
is_off_grid grid (Send sent) = not (is_inside grid sent.from && list_all (is_inside grid) sent.to)

-- there is a grid already, or a target is named twice
abbrev pub is_repeated : List Entry → Entry → Bool
is_repeated entries (Grid columns rows) = are_some entries
is_repeated entries (Send sent) = has_twice (targets_in (grid_of entries) sent)

-- what is wrong with an entry behind these, in the order in which faults are told
unfoldable pub entry_fault : List Entry → Entry → Option SetKind
entry_fault entries entry =
    fault_if (is_bad_size entry) BadSize
    (fault_if (is_off_grid (grid_of entries) entry) OffGrid
    (fault_if (is_repeated entries entry) Repeated None))

-- the first entry is due, and the line does not begin with `grid`
abbrev pub is_missing : List Entry → List (List ℕ) → Bool
is_missing [] line = not (is_grid line)
is_missing (first ∷ entries) line = false

-- the fault of what a line declares, or of a line of another form
abbrev pub form_fault : List Entry → Option Entry → Option SetKind
form_fault entries None = Some BadLine
form_fault entries (Some entry) = entry_fault entries entry

-- what is wrong with a line behind these entries; nothing with one that has no tokens
unfoldable pub line_fault : List Entry → List (List ℕ) → Option SetKind
line_fault entries line =
    if length line == 0 then None
    else (if is_missing entries line then Some Missing
    else form_fault entries (line_entry line))
