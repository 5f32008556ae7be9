-- The listing of a set is the lines of its entries, one after the other.
use Rattle.std.proofs.Common.{◌≡◌, ℕ, Bool, true, false, List, [], ◌∷◌, ◌++◌, map, refl, sym, ap, ◌∙◌, arith, append_assoc, append-nil}
use Rattle.std.specs.Prelude.{codes, ◌==◌, if◌then◌else◌}
use Rattle.std.specs.Fmt.{decimal}
use Rattle.std.specs.List.{flat_map, enumerate_from, AllByRecursion}
use Rattle.std.proofs.lemmas.Grind.{flat_map-append}
use Rattle.raw_model.specs.declared.limits.TheConstants.{DEFAULT_DEPTH}
use Rattle.raw_text.specs.Lines.{IsLine}
use Rattle.raw_tile_isa.specs.Instruction.{Instruction}
use Rattle.raw_switch_isa.specs.Instruction.{SwitchInstruction}
use Rattle.raw_tile_asm.specs.Listing.{listed_lines}
use Rattle.raw_switch_asm.specs.Listing.{line_text}
use Rattle.raw_grid.specs.declared.parts.PortKind.{PortKind}
use Rattle.raw_grid.specs.declared.parts.PortKind.TheVariants as kind
use Rattle.raw_grid.specs.declared.parts.PortPlace.{PortPlace}
use Rattle.raw_model.specs.Program.{ProgramSet, TileProgram, PortProgram}
use Rattle.raw_set_text.specs.declared.word.Word.TheVariants as word
use Rattle.raw_set_text.specs.Entry.{Entry}
use Rattle.raw_set_text.specs.Entry.Entry.{Grid, Limit, Depth, Port, Feed, Data, Misses, Show, Tile, Switch}
use Rattle.raw_set_text.specs.Listing.{pieces, placed_ports, depth_lines, port_line, port_line_of, feed_line, feed_lines, data_line, turns_line, memory_lines, show_line, section_lines, program_lines, line_of, set_lines, edge_texts}
use Rattle.raw_set_text.proofs.Listed.Lists.{all_join}
use Rattle.raw_set_text.proofs.Listed.Entries.{word_of, operands_of, entry_lines, tile_at, port_entry, port_word, port_operands, feed_entries, data_entry_of, memory_entries, show_entry_of, code_entries, switch_entries, program_entries, depth_entries, first_entries, port_entries, later_entries, set_entries}
use Rattle.raw_set_text.proofs.Listed.Tokens.{IsWritable, operands_short, line_is_line}
use Rattle.raw_set_text.proofs.Listed.Sections.{tile_lines, switch_lines}

-- the lines of entries
abbrev pub all_lines : List Entry → List (List ℕ)
all_lines entries = flat_map entry_lines entries

lines_append : (a b : List Entry) → all_lines (a ++ b) ≡ all_lines a ++ all_lines b
lines_append a b = flat_map-append entry_lines a b

-- entries of one line each
single_lines : {X : Type 0} (entry : X → Entry) (line : X → List ℕ) → ((x : X) → entry_lines (entry x) ≡ line x ∷ []) → (xs : List X) → all_lines (map entry xs) ≡ map line xs
single_lines entry line same [] = refl
single_lines entry line same (x ∷ xs) = ap (λ l. l ++ all_lines (map entry xs)) (same x) ∙ ap (λ l. line x ∷ l) (single_lines entry line same xs)

-- groups of entries
group_lines : {X : Type 0} (entries : X → List Entry) (lines : X → List (List ℕ)) → ((x : X) → all_lines (entries x) ≡ lines x) → (xs : List X) → all_lines (flat_map entries xs) ≡ flat_map lines xs
group_lines entries lines same [] = refl
group_lines entries lines same (x ∷ xs) = lines_append (entries x) (flat_map entries xs) ∙ rw (same x, group_lines entries lines same xs) refl

depth_is : (depth : ℕ) (test : Bool) → all_lines (if test then [] else Depth depth ∷ []) ≡ (if test then [] else line_of word.Depth (decimal depth ∷ []) ∷ [])
depth_is depth true = refl
depth_is depth false = refl

port_is : (k : PortKind) (place : PortPlace) (capacity : ℕ) → line_of (port_word k) (edge_texts place ++ port_operands k capacity) ≡ port_line_of k place capacity
port_is kind.Source place capacity = refl
port_is kind.Sink place capacity = refl

ports_are : (ports : List (PortPlace × PortProgram)) → all_lines (map port_entry ports) ≡ map port_line ports
ports_are ports = single_lines port_entry port_line (λ p. ap (λ line. line ∷ []) (port_is p.0.kind p.0 p.1.capacity)) ports

feeds_are : (ports : List (PortPlace × PortProgram)) → all_lines (flat_map feed_entries ports) ≡ flat_map feed_lines ports
feeds_are ports = group_lines feed_entries feed_lines (λ p. single_lines (Feed p.0) (feed_line p.0) (λ words. refl) (pieces 8 p.1.words)) ports

memory_is : (columns : ℕ) (tile : ℕ × TileProgram) → all_lines (memory_entries columns tile) ≡ memory_lines columns tile
memory_is columns tile =
    lines_append (map (data_entry_of columns tile.0) tile.1.cells) (map (Misses (tile_at columns tile.0)) (pieces 16 tile.1.misses))
    ∙ rw (single_lines (data_entry_of columns tile.0) (data_line columns tile.0) (λ cell. refl) tile.1.cells, single_lines (Misses (tile_at columns tile.0)) (turns_line columns tile.0) (λ turns. refl) (pieces 16 tile.1.misses)) refl

code_is : (columns t : ℕ) (code : List Instruction) → all_lines (code_entries (tile_at columns t) code) ≡ section_lines word.Tile columns t (listed_lines 0 code)
code_is columns t [] = refl
code_is columns t (i ∷ code) = append-nil (entry_lines (Tile (tile_at columns t) (i ∷ code)))

switch_is : (columns t : ℕ) (code : List SwitchInstruction) → all_lines (switch_entries (tile_at columns t) code) ≡ section_lines word.Switch columns t (map line_text code)
switch_is columns t [] = refl
switch_is columns t (i ∷ code) = append-nil (entry_lines (Switch (tile_at columns t) (i ∷ code)))

program_is : (columns : ℕ) (tile : ℕ × TileProgram) → all_lines (program_entries columns tile) ≡ program_lines columns tile
program_is columns tile =
    lines_append (code_entries (tile_at columns tile.0) tile.1.code) (switch_entries (tile_at columns tile.0) tile.1.switch)
    ∙ rw (code_is columns tile.0 tile.1.code, switch_is columns tile.0 tile.1.switch) refl

-- the lines of a set are those of its entries, in three parts
pub lines_are : (set : ProgramSet) → set_lines set ≡ all_lines (first_entries set) ++ (all_lines (port_entries set) ++ all_lines (later_entries set))
lines_are set =
    let c = set.topo.cols in
    let placed = placed_ports set in
    let numbered = enumerate_from 0 set.tiles in
    let feeds = flat_map feed_entries placed in
    let memories = flat_map (memory_entries c) numbered in
    let shows = map (show_entry_of c) set.shows in
    let programs = flat_map (program_entries c) numbered in
    let ports : all_lines (port_entries set) ≡ depth_lines set.depth ++ map port_line placed =
    lines_append (depth_entries set.depth) (map port_entry placed) ∙ rw (depth_is set.depth (set.depth == DEFAULT_DEPTH), ports_are placed) refl in
    let later : all_lines (later_entries set) ≡ flat_map feed_lines placed ++ (flat_map (memory_lines c) numbered ++ (map (show_line c) set.shows ++ flat_map (program_lines c) numbered)) =
    lines_append feeds (memories ++ (shows ++ programs))
    ∙ ap (λ l. all_lines feeds ++ l) (lines_append memories (shows ++ programs) ∙ ap (λ l. all_lines memories ++ l) (lines_append shows programs))
    ∙ rw (
      feeds_are placed,
      group_lines (memory_entries c) (memory_lines c) (memory_is c) numbered,
      single_lines (show_entry_of c) (show_line c) (λ show. refl) set.shows,
      group_lines (program_entries c) (program_lines c) (program_is c) numbered,
    ) refl in
    rw (ports, later) (simp append_assoc)

pub lines_whole : (set : ProgramSet) → set_lines set ≡ all_lines (set_entries set)
lines_whole set =
    lines_are set
    ∙ ap (λ l. all_lines (first_entries set) ++ l) (sym (lines_append (port_entries set) (later_entries set)))
    ∙ sym (lines_append (first_entries set) (port_entries set ++ later_entries set))

end_line : IsLine (codes "end")
end_line = record { plain = refl; short = omega arith }

whole_line : (entry : Entry) → IsWritable entry → IsLine (line_of (word_of entry) (operands_of entry))
whole_line entry is = line_is_line (word_of entry) (operands_of entry) (operands_short entry is)

entry_whole : (entry : Entry) → IsWritable entry → AllByRecursion IsLine (entry_lines entry)
entry_whole (Grid columns rows) is = (whole_line (Grid columns rows) is, tt)
entry_whole (Limit n) is = (whole_line (Limit n) is, tt)
entry_whole (Depth n) is = (whole_line (Depth n) is, tt)
entry_whole (Port place capacity) is = (whole_line (Port place capacity) is, tt)
entry_whole (Feed place words) is = (whole_line (Feed place words) is, tt)
entry_whole (Data tile address words) is = (whole_line (Data tile address words) is, tt)
entry_whole (Misses tile turns) is = (whole_line (Misses tile turns) is, tt)
entry_whole (Show tile address words) is = (whole_line (Show tile address words) is, tt)
entry_whole (Tile tile code) is = (whole_line (Tile tile code) is, all_join IsLine (listed_lines 0 code) (codes "end" ∷ []) (tile_lines 0 code (omega (arith, is.1)) is.2).0 (end_line, tt))
entry_whole (Switch tile code) is = (whole_line (Switch tile code) is, all_join IsLine (map line_text code) (codes "end" ∷ []) (switch_lines code is.2).0 (end_line, tt))

-- no line of entries has a fault
pub entries_whole : (entries : List Entry) → AllByRecursion IsWritable entries → AllByRecursion IsLine (all_lines entries)
entries_whole [] all = tt
entries_whole (entry ∷ entries) all = all_join IsLine (entry_lines entry) (all_lines entries) (entry_whole entry all.0) (entries_whole entries all.1)
