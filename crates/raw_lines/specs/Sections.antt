-- The sections of a text: which lines the program of each processor has.
use Rattle.std.specs.Prelude.{ℕ, zero, suc, ◌+◌, Bool, true, false, ◌&&◌, List, [], ◌∷◌, ◌++◌, length, codes, Option, Some, None, slice_index_or, slice_range, if◌then◌else◌}
use Rattle.std.specs.Option.{option_map}
use Rattle.std.specs.List.{find}
use Rattle.std.specs.Str.{bytes_eq}
use Rattle.raw_grid.specs.Topology.{Topology}
use Rattle.raw_set_text.specs.Entry.{Entry}
use Rattle.raw_set_text.specs.Entry.Entry.{Tile, Switch}
use Rattle.raw_set_text.specs.Entries.{is_tile}
use Rattle.raw_set_text.specs.Forms.{tile_entry, switch_entry}
use Rattle.raw_set_text.specs.Sections.{is_end, head_of, head_entry}
use Rattle.raw_lines.specs.declared.kind.ProgramKind.{ProgramKind}
use Rattle.raw_lines.specs.declared.kind.ProgramKind.TheVariants as kind
use Rattle.raw_lines.specs.declared.section.ProgramSection.{ProgramSection}

-- whose section begins with this word
abbrev pub kind_named : List ℕ → Option ProgramKind
kind_named word = if bytes_eq word (codes "tile") then Some kind.Tile else (if bytes_eq word (codes "switch") then Some kind.Switch else None)

-- the section whose head at a place says this; it has no line yet
abbrev pub begun : ℕ → Option Entry → Option ProgramSection
begun place (Some (Tile tile code)) = Some (record { kind = kind.Tile; tile = tile; from = place + 1; to = place + 1 })
begun place (Some (Switch tile code)) = Some (record { kind = kind.Switch; tile = tile; from = place + 1; to = place + 1 })
begun place _ = None

-- the same, by the word that begins the head and the operands behind it
abbrev pub begun_by : ℕ → Option ProgramKind → List (List ℕ) → Option ProgramSection
begun_by place (Some kind.Tile) operands = begun place (tile_entry operands)
begun_by place (Some kind.Switch) operands = begun place (switch_entry operands)
begun_by place None operands = None

-- a section with its lines up to this place
abbrev pub upto : ℕ → Option ProgramSection → List ProgramSection
upto place None = []
upto place (Some section) = record section { to = place } ∷ []

-- the section that line k ends, where it stands in the one with this head
abbrev pub ended_at : List (List (List ℕ)) → ℕ → Option ℕ → List ProgramSection
ended_at lines k None = []
ended_at lines k (Some head) = if is_end (slice_index_or lines k []) then upto k (begun head (head_entry lines head)) else []

-- the sections that have ended in the first k lines
abbrev pub sections_before : List (List (List ℕ)) → ℕ → List ProgramSection
sections_before lines zero = []
sections_before lines (suc k) = sections_before lines k ++ ended_at lines k (head_of lines k)

-- the sections of all lines
abbrev pub sections_in : List (List (List ℕ)) → List ProgramSection
sections_in lines = sections_before lines (length lines)

abbrev pub same_kind : ProgramKind → ProgramKind → Bool
same_kind kind.Tile kind.Tile = true
same_kind kind.Switch kind.Switch = true
same_kind _ _ = false

-- a section is that of tile t, or of its switch, where there are so many columns
abbrev pub is_for : ProgramKind → ℕ → ℕ → ProgramSection → Bool
is_for kind columns t section = same_kind section.kind kind && is_tile columns t section.tile

-- the section of a tile, or of its switch, among these
abbrev pub section_for : List ProgramSection → ProgramKind → Topology → ℕ → Option ProgramSection
section_for sections kind topo tile = find (is_for kind topo.cols tile) sections

-- the place of the first line of a section, and its lines
abbrev pub part_in : List (List (List ℕ)) → ProgramSection → ℕ × List (List (List ℕ))
part_in lines section = (section.from, slice_range lines section.from section.to)

-- the lines that the program of a tile has, or of its switch, and their place, where it has a section
abbrev pub part_for : List (List (List ℕ)) → List ProgramSection → ProgramKind → Topology → ℕ → Option (ℕ × List (List (List ℕ)))
part_for lines sections kind topo tile = option_map (part_in lines) (section_for sections kind topo tile)
