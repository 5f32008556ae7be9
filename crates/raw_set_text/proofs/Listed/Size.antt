-- A listing has at most 33,554,432 bytes: each line has few for what it says, and the totals bound the rest.
use Rattle.std.proofs.Common.{◌≡◌, ℕ, ◌+◌, ◌-◌, ◌*◌, ◌/◌, ◌≤◌, Bool, true, false, List, [], ◌∷◌, ◌++◌, length, map, take, drop, All, refl, ap, ◌∙◌, arith, length-append, sum_by}
use Rattle.std.specs.Prelude.{codes, ◌==◌, if◌then◌else◌}
use Rattle.std.specs.List.{flat_map, enumerate_from, AllByRecursion}
use Rattle.std.proofs.lemmas.List.{length-map}
use Rattle.std.proofs.lemmas.List.FromFn.{length-map-range_with_len, length-enumerate_from}
use Rattle.std.proofs.lemmas.List.Sums.{sum_by-cons}
use Rattle.std.proofs.lemmas.Grind.{flat_map-append}
use Rattle.std.proofs.Math.Nat.{mul-le-mul_right}
use Rattle.raw_text.specs.Lines.{written_lines}
use Rattle.raw_tile_isa.specs.declared.limits.TheConstants.{MAX_TILE_CODE}
use Rattle.raw_tile_isa.specs.Instruction.{Instruction, IsTileIns}
use Rattle.raw_switch_isa.specs.Instruction.{SwitchInstruction, IsSwitchIns}
use Rattle.raw_tile_asm.specs.Listing.{listing as tile_listing, listed_lines}
use Rattle.raw_switch_asm.specs.Listing.{listing as switch_listing, line_text}
use Rattle.raw_grid.specs.Topology.{Topology, IsTopology}
use Rattle.raw_grid.specs.declared.parts.PortPlace.{PortPlace}
use Rattle.raw_model.specs.Program.{ProgramSet, TileProgram, PortProgram, IsSet}
use Rattle.raw_set_text.specs.declared.declaration.Position.{Position}
use Rattle.raw_set_text.specs.Entry.{Entry}
use Rattle.raw_set_text.specs.Entry.Entry.{Grid, Limit, Depth, Port, Feed, Data, Misses, Show, Tile, Switch}
use Rattle.raw_set_text.specs.Faults.{fed_in, turns_in, cells_in, instructions_in, routed_in}
use Rattle.raw_set_text.specs.Listing.{pieces, paired, placed_ports, line_of, listing, hex_text}
use Rattle.std.specs.Fmt.{decimal}
use Rattle.raw_text.specs.declared.limits.TheConstants.{MAX_TEXT}
use Rattle.raw_model.specs.declared.limits.TheConstants.{DEFAULT_DEPTH}
use Rattle.raw_set_text.proofs.Listed.Entries.{word_of, operands_of, entry_lines, tile_at, port_entry, feed_entries, data_entry_of, memory_entries, show_entry_of, code_entries, switch_entries, program_entries, depth_entries, port_entries, later_entries, set_entries}
use Rattle.raw_set_text.proofs.Listed.Tokens.{IsWritable, operands_short, capacity_short, line_short}
use Rattle.raw_set_text.proofs.Listed.Whole.{all_lines, lines_whole}
use Rattle.raw_set_text.proofs.Listed.Good.{set_writable}
use Rattle.raw_set_text.proofs.Listed.Sums.{sum_numbered, sum_paired, words, turns, cells, instructions, routed}

-- the listings of programs are short, and a grid has few ports
pub record ShortLaws : Type 0 where
  pub tile : (program : List Instruction) → length program ≤ MAX_TILE_CODE → AllByRecursion IsTileIns program → length (tile_listing program) ≤ 88 * length program
  pub switch : (program : List SwitchInstruction) → All IsSwitchIns program → length (switch_listing program) ≤ 112 * length program
  pub ports : (topo : Topology) → IsTopology topo → length topo.places ≤ 128

written_next : (line : List ℕ) (lines : List (List ℕ)) → length (written_lines (line ∷ lines)) ≡ length line + 1 + length (written_lines lines)
unfolding written_lines
written_next line lines = omega (arith, length-append (line ++ 10 ∷ []) (written_lines lines), length-append line (10 ∷ []))

written_more : (front back : List (List ℕ)) → length (written_lines (front ++ back)) ≡ length (written_lines front) + length (written_lines back)
unfolding written_lines
written_more front back = ap length (flat_map-append (λ line. line ++ 10 ∷ []) front back) ∙ length-append (written_lines front) (written_lines back)

-- how many bytes the lines of an entry have at most
abbrev most_bytes : Entry → ℕ
most_bytes entry = 67 + 11 * fed_in entry + 11 * turns_in entry + 11 * cells_in entry + 88 * instructions_in entry + 112 * routed_in entry

-- an entry of one line
one_line : (entry : Entry) → IsWritable entry → (lines : List (List ℕ)) → length (written_lines (line_of (word_of entry) (operands_of entry) ∷ lines)) ≤ 12 + 11 * length (operands_of entry) + length (written_lines lines)
one_line entry is lines =
    omega (arith, written_next (line_of (word_of entry) (operands_of entry)) lines, line_short (word_of entry) (operands_of entry) (operands_short entry is))

none_written : length (written_lines []) ≡ 0
unfolding written_lines
none_written = refl

end_written : length (written_lines (codes "end" ∷ [])) ≡ 4
unfolding written_lines
end_written = refl

module _ (laws : ShortLaws) where
  entry_size : (entry : Entry) → IsWritable entry → length (written_lines (entry_lines entry)) ≤ most_bytes entry
  unfolding tile_listing switch_listing
  entry_size (Grid columns rows) is = omega (arith, one_line (Grid columns rows) is [], none_written)
  entry_size (Limit n) is = omega (arith, one_line (Limit n) is [], none_written)
  entry_size (Depth n) is = omega (arith, one_line (Depth n) is [], none_written)
  entry_size (Port place capacity) is = omega (arith, one_line (Port place capacity) is [], none_written, (capacity_short place.kind capacity is.1).1)
  entry_size (Feed place words) is = omega (arith, one_line (Feed place words) is [], none_written, length-map words hex_text)
  entry_size (Data tile address words) is = omega (arith, one_line (Data tile address words) is [], none_written, length-map words hex_text)
  entry_size (Misses tile turns) is = omega (arith, one_line (Misses tile turns) is [], none_written, length-map turns decimal)
  entry_size (Show tile address words) is = omega (arith, one_line (Show tile address words) is [], none_written)
  entry_size (Tile tile code) is =
      omega (arith, one_line (Tile tile code) is (listed_lines 0 code ++ codes "end" ∷ []), written_more (listed_lines 0 code) (codes "end" ∷ []), end_written, laws.tile code is.1 is.2)
  entry_size (Switch tile code) is =
      omega (arith, one_line (Switch tile code) is (map line_text code ++ codes "end" ∷ []), written_more (map line_text code) (codes "end" ∷ []), end_written, laws.switch code is.2)

  entries_size : (entries : List Entry) → AllByRecursion IsWritable entries
      → length (written_lines (all_lines entries)) ≤ 67 * length entries + 11 * sum_by fed_in entries + 11 * sum_by turns_in entries + 11 * sum_by cells_in entries + 88 * sum_by instructions_in entries + 112 * sum_by routed_in entries
  entries_size [] all = omega (arith, none_written)
  entries_size (entry ∷ entries) all =
      omega (
        arith,
        written_more (entry_lines entry) (all_lines entries),
        entry_size entry all.0,
        entries_size entries all.1,
        sum_by-cons fed_in entry entries,
        sum_by-cons turns_in entry entries,
        sum_by-cons cells_in entry entries,
        sum_by-cons instructions_in entry entries,
        sum_by-cons routed_in entry entries,
      )

-- how many pieces a list has
pieces_few : (size : ℕ) (xs : List ℕ) → length (pieces size xs) ≡ (length xs + size - 1) / size
pieces_few size xs = length-map-range_with_len (λ n. take size (drop (n * size) xs)) 0 ((length xs + size - 1) / size)

feeds_few : (ports : List (PortPlace × PortProgram)) → 8 * length (flat_map feed_entries ports) ≤ sum_by (λ (p : PortPlace × PortProgram). length p.1.words) ports + 7 * length ports
feeds_few [] = omega arith
feeds_few (p ∷ ports) =
    omega (
      arith,
      length-append (feed_entries p) (flat_map feed_entries ports),
      length-map (pieces 8 p.1.words) (Feed p.0),
      pieces_few 8 p.1.words,
      sum_by-cons (λ (q : PortPlace × PortProgram). length q.1.words) p ports,
      feeds_few ports,
    )

memories_few : (columns : ℕ) (tiles : List (ℕ × TileProgram))
    → 16 * length (flat_map (memory_entries columns) tiles) ≤ 16 * sum_by (λ (t : ℕ × TileProgram). length t.1.cells) tiles + sum_by (λ (t : ℕ × TileProgram). length t.1.misses) tiles + 15 * length tiles
memories_few columns [] = omega arith
memories_few columns (t ∷ tiles) =
    let misses = map (Misses (tile_at columns t.0)) (pieces 16 t.1.misses) in
    omega (
      arith,
      length-append (memory_entries columns t) (flat_map (memory_entries columns) tiles),
      length-append (map (data_entry_of columns t.0) t.1.cells) misses,
      length-map t.1.cells (data_entry_of columns t.0),
      length-map (pieces 16 t.1.misses) (Misses (tile_at columns t.0)),
      pieces_few 16 t.1.misses,
      sum_by-cons (λ (u : ℕ × TileProgram). length u.1.cells) t tiles,
      sum_by-cons (λ (u : ℕ × TileProgram). length u.1.misses) t tiles,
      memories_few columns tiles,
    )

code_few : (tile : Position) (code : List Instruction) → length (code_entries tile code) ≤ 1
code_few tile [] = omega arith
code_few tile (i ∷ code) = omega arith

switch_few : (tile : Position) (code : List SwitchInstruction) → length (switch_entries tile code) ≤ 1
switch_few tile [] = omega arith
switch_few tile (i ∷ code) = omega arith

programs_few : (columns : ℕ) (tiles : List (ℕ × TileProgram)) → length (flat_map (program_entries columns) tiles) ≤ 2 * length tiles
programs_few columns [] = omega arith
programs_few columns (t ∷ tiles) =
    let at = tile_at columns t.0 in
    omega (
      arith,
      length-append (program_entries columns t) (flat_map (program_entries columns) tiles),
      length-append (code_entries at t.1.code) (switch_entries at t.1.switch),
      code_few at t.1.code,
      switch_few at t.1.switch,
      programs_few columns tiles,
    )

depth_few : (depth : ℕ) (test : Bool) → length (if test then [] else Depth depth ∷ []) ≤ 1
depth_few depth true = omega arith
depth_few depth false = omega arith

paired_few : {A B : Type 0} (xs : List A) (ys : List B) → length (paired xs ys) ≤ length xs
paired_few [] ys = omega arith
paired_few (x ∷ xs) [] = omega arith
paired_few (x ∷ xs) (y ∷ ys) = omega (arith, paired_few xs ys)

-- a set of the most words, cells and misses has this many entries at most
entries_few : ShortLaws → (set : ProgramSet) → IsSet set → length (set_entries set) ≤ 116200
entries_few laws set is =
    let columns = set.topo.cols in
    let placed = placed_ports set in
    let numbered = enumerate_from 0 set.tiles in
    let size = is.topology.size in
    let feeds = flat_map feed_entries placed in
    let memories = flat_map (memory_entries columns) numbered in
    let shows = map (show_entry_of columns) set.shows in
    let programs = flat_map (program_entries columns) numbered in
    let tiles : length set.tiles ≤ 64 = omega (arith, is.each_tile, mul-le-mul_right set.topo.rows size.most_cols, size.most_rows) in
    omega (
      arith,
      length-append (port_entries set) (later_entries set),
      length-append (depth_entries set.depth) (map port_entry placed),
      depth_few set.depth (set.depth == DEFAULT_DEPTH),
      length-map placed port_entry,
      paired_few set.topo.places set.ports,
      laws.ports set.topo is.topology,
      length-append feeds (memories ++ (shows ++ programs)),
      length-append memories (shows ++ programs),
      length-append shows programs,
      feeds_few placed,
      sum_paired (λ port. length port.words) set.topo.places set.ports is.each_port,
      is.totals.words,
      memories_few columns numbered,
      sum_numbered (λ tile. length tile.cells) set.tiles 0,
      sum_numbered (λ tile. length tile.misses) set.tiles 0,
      is.totals.cells,
      is.totals.misses,
      length-enumerate_from 0 set.tiles,
      length-map set.shows (show_entry_of columns),
      is.totals.shows,
      programs_few columns numbered,
    )

-- the listing of a set is short
pub listing_short : ShortLaws → (set : ProgramSet) → IsSet set → length (listing set) ≤ MAX_TEXT
unfolding listing
listing_short laws set is =
    omega (
      arith,
      ap (λ lines. length (written_lines lines)) (lines_whole set),
      entries_size laws (set_entries set) (set_writable set is),
      entries_few laws set is,
      words set is,
      turns set is,
      cells set is,
      instructions set is,
      routed set is,
    )
