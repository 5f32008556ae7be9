-- Which lines stand in sections, what the lines before a place declare, and what is wrong with the line at a place.
use Rattle.std.specs.Prelude.{ℕ, zero, suc, ◌+◌, ◌-◌, ◌^◌, Bool, true, false, List, [], ◌∷◌, ◌++◌, length, drop, codes, Option, Some, None, nat_lt, sum_by, slice_index_or, if◌then◌else◌}
use Rattle.std.specs.Option.{option_map, is_some}
use Rattle.std.specs.Result.{result_err}
use Rattle.std.specs.List.{before_first}
use Rattle.raw_text.specs.Text.{is_word}
use Rattle.raw_asm.specs.Section.{line_code, code_upto}
use Rattle.raw_tile_asm.specs.Language.{tile_language}
use Rattle.raw_switch_isa.specs.Ends.{ends}
use Rattle.raw_switch_asm.specs.Language.{switch_language}
use Rattle.raw_grid.specs.declared.parts.Ends.{Ends}
use Rattle.raw_grid.specs.Topology.{Topology, switch_at}
use Rattle.raw_grid.specs.Wires.{input_wire, output_wire}
use Rattle.raw_set_text.specs.declared.kind.SetKind.{SetKind}
use Rattle.raw_set_text.specs.declared.kind.SetKind.TheVariants.{Missing, Asm}
use Rattle.raw_set_text.specs.declared.declaration.Position.{Position}
use Rattle.raw_set_text.specs.Entry.{Entry}
use Rattle.raw_set_text.specs.Entry.Entry.{Tile, Switch}
use Rattle.raw_set_text.specs.Forms.{line_entry}
use Rattle.raw_set_text.specs.Entries.{topology_of}
use Rattle.raw_set_text.specs.Faults.{entry_fault, line_fault}

-- the word whose bits are 1 at the ends that pass a test
abbrev pub bits_of : (ℕ → Bool) → ℕ
bits_of test = sum_by (λ end. if test end then 2 ^ end else 0) ends

-- the ends of the switch of a tile that have a wire
unfoldable pub wired_at : Topology → Position → Ends
wired_at topo tile = record {
  inputs = bits_of (λ end. is_some (input_wire topo (switch_at topo tile.x tile.y) end));
  outputs = bits_of (λ end. is_some (output_wire topo (switch_at topo tile.x tile.y) end));
}

-- an entry is that of a section
abbrev pub is_section : Option Entry → Bool
is_section (Some (Tile tile code)) = true
is_section (Some (Switch tile code)) = true
is_section _ = false

-- the line that ends a section
abbrev pub is_end : List (List ℕ) → Bool
is_end line = is_word (codes "end") line

-- the head of the section that is open behind a line, by that of the one before it
abbrev pub head_behind : ℕ → List (List ℕ) → Option ℕ → Option ℕ
head_behind k line None = if is_section (line_entry line) then Some k else None
head_behind k line (Some head) = if is_end line then None else Some head

-- the place of the head of the section in which line k stands, where it stands in one: each line from behind the head
-- up to and with the first that ends the section
abbrev pub head_of : List (List (List ℕ)) → ℕ → Option ℕ
head_of lines zero = None
head_of lines (suc k) = head_behind k (slice_index_or lines k []) (head_of lines k)

-- the lines of the section with this head
abbrev pub section_of : List (List (List ℕ)) → ℕ → List (List (List ℕ))
section_of lines head = before_first is_end (drop (head + 1) lines)

-- the section that a head begins, with the program that its lines mean
abbrev pub section_entry : List Entry → List (List (List ℕ)) → Option Entry → Option Entry
section_entry entries section (Some (Tile tile code)) = Some (Tile tile (code_upto tile_language section (length section)))
section_entry entries section (Some (Switch tile code)) =
    Some (Switch tile (code_upto (switch_language (wired_at (topology_of entries) tile)) section (length section)))
section_entry entries section _ = None

-- what is wrong with a line of a section
abbrev pub section_fault : List Entry → List (List (List ℕ)) → ℕ → Option Entry → Option SetKind
section_fault entries section k (Some (Tile tile code)) = option_map Asm (result_err (line_code tile_language section k))
section_fault entries section k (Some (Switch tile code)) =
    option_map Asm (result_err (line_code (switch_language (wired_at (topology_of entries) tile)) section k))
section_fault entries section k _ = None

-- the entry as a list
abbrev pub listed : Option Entry → List Entry
listed None = []
listed (Some entry) = entry ∷ []

-- what a line outside sections declares at once; a section is declared at its end
abbrev pub declared_outside : Option Entry → List Entry
declared_outside entry = if is_section entry then [] else listed entry

-- the head line of a section, read by itself
abbrev pub head_entry : List (List (List ℕ)) → ℕ → Option Entry
head_entry lines head = line_entry (slice_index_or lines head [])

-- what line k declares behind these entries, where it stands outside sections or in the one with this head
abbrev pub declared_at : List (List (List ℕ)) → ℕ → List Entry → Option ℕ → List Entry
declared_at lines k entries None = declared_outside (line_entry (slice_index_or lines k []))
declared_at lines k entries (Some head) =
    if is_end (slice_index_or lines k []) then listed (section_entry entries (section_of lines head) (head_entry lines head)) else []

-- what the first k lines declare
abbrev pub entries_before : List (List (List ℕ)) → ℕ → List Entry
entries_before lines zero = []
entries_before lines (suc k) = entries_before lines k ++ declared_at lines k (entries_before lines k) (head_of lines k)

-- the fault of an entry, if there is one
abbrev pub fault_of : List Entry → Option Entry → Option SetKind
fault_of entries None = None
fault_of entries (Some entry) = entry_fault entries entry

-- what is wrong with line k behind these entries, where it stands outside sections or in the one with this head
abbrev pub fault_in : List (List (List ℕ)) → ℕ → List Entry → Option ℕ → Option SetKind
fault_in lines k entries None = line_fault entries (slice_index_or lines k [])
fault_in lines k entries (Some head) =
    if is_end (slice_index_or lines k []) then fault_of entries (section_entry entries (section_of lines head) (head_entry lines head))
    else section_fault entries (section_of lines head) (k - (head + 1)) (head_entry lines head)

-- what is wrong with line k
unfoldable pub fault_at : List (List (List ℕ)) → ℕ → Option SetKind
fault_at lines k = fault_in lines k (entries_before lines k) (head_of lines k)

-- what is wrong behind the last line: a section has not ended, or there is no grid or no limit
unfoldable pub end_fault : List (List (List ℕ)) → Option SetKind
end_fault lines =
    if is_some (head_of lines (length lines)) then Some Missing
    else (if nat_lt (length (entries_before lines (length lines))) 2 then Some Missing else None)
