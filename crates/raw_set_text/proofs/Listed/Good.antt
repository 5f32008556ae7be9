-- Each entry of a set is lawful by itself.
use Rattle.std.proofs.Common.{◌≡◌, ℕ, ◌+◌, ◌-◌, ◌*◌, ◌/◌, ◌%◌, ◌^◌, ◌<◌, ◌≤◌, Bool, true, false, List, [], ◌∷◌, ◌++◌, length, take, drop, get_or, map, All, refl, sym, ap, ◌∙◌, subst, arith, length-drop}
use Rattle.std.specs.Prelude.{◌==◌, IsNone, IsTrue, nat_lt, if◌then◌else◌}
use Rattle.std.specs.List.{flat_map, list_all, list_any, enumerate_from, range_with_len, AllByRecursion}
use Rattle.std.proofs.lemmas.Bool.Decides.{nat_tests}
use Rattle.std.proofs.lemmas.List.{length-take}
use Rattle.std.proofs.lemmas.List.Folds.{list_any_at}
use Rattle.std.proofs.lemmas.Option.{slice_get-get_or}
use Rattle.std.proofs.lemmas.Nat.{div-add-mod'}
use Rattle.std.proofs.Math.Nat.{div-lt_iff_lt-mul, mul_comm}
use Rattle.raw_tile_isa.specs.declared.limits.TheConstants.{MAX_TILE_CODE}
use Rattle.raw_tile_isa.specs.Instruction.{Instruction, IsTileIns}
use Rattle.raw_switch_isa.specs.declared.limits.TheConstants.{MAX_SWITCH_CODE}
use Rattle.raw_switch_isa.specs.Instruction.{SwitchInstruction, IsSwitchIns}
use Rattle.raw_grid.specs.declared.parts.PortKind.{PortKind}
use Rattle.raw_grid.specs.declared.parts.PortKind.TheVariants as kind
use Rattle.raw_grid.specs.declared.parts.PortPlace.{PortPlace}
use Rattle.raw_grid.specs.Topology.{Topology, neighbour, tile_count}
use Rattle.raw_model.specs.declared.limits.TheConstants.{MAX_DEPTH, MEMORY_SIZE, MAX_CAPACITY, DEFAULT_DEPTH}
use Rattle.raw_model.specs.declared.program.Show.{Show as Shown}
use Rattle.raw_model.specs.Program.{ProgramSet, TileProgram, PortProgram, IsOfKind, IsSet, has_wires, memory_size}
use Rattle.raw_switch_asm.specs.Statement.{are_wired}
use Rattle.raw_set_text.specs.Entry.{Entry, same_place}
use Rattle.raw_set_text.specs.Entry.Entry.{Grid, Depth, Port, Feed, Data, Misses, Show, Tile, Switch}
use Rattle.raw_set_text.specs.Sections.{wired_at}
use Rattle.raw_set_text.specs.Listing.{pieces, placed_ports}
use Rattle.raw_set_text.proofs.Listed.Lists.{all_gives, all_join, all_mapped, all_grouped, all_of, all_numbered, all_paired, all_taken, all_dropped, all_ranged}
use Rattle.raw_set_text.proofs.Listed.Entries.{tile_at, port_entry, feed_entries, data_entry_of, memory_entries, show_entry_of, code_entries, switch_entries, program_entries, depth_entries, first_entries, port_entries, later_entries, set_entries}
use Rattle.raw_set_text.proofs.Listed.Tokens.{IsWritable, IsNear, AreFew, AreWords, HasCapacity}
use Rattle.raw_set_text.proofs.Places.{place_itself}
use Rattle.raw_set_text.proofs.Wired.{wired_as}

-- a place on the grid
pub record IsOn (topo : Topology) (x y : ℕ) : Type 0 where
  pub column : x < topo.cols
  pub row : y < topo.rows

-- an entry behind the first two is lawful by itself
abbrev pub IsGood : ProgramSet → Entry → Type 0
IsGood set (Depth n) = (1 ≤ n) × (n ≤ MAX_DEPTH)
IsGood set (Port place capacity) = IsOn set.topo place.x place.y × IsNone (neighbour set.topo place.x place.y place.side) × (capacity ≤ MAX_CAPACITY) × HasCapacity place.kind capacity
IsGood set (Feed place words) = IsOn set.topo place.x place.y × (place.kind ≡ kind.Source) × (list_any (same_place place) set.topo.places ≡ true) × AreFew words
IsGood set (Data tile address (word ∷ [])) = IsOn set.topo tile.x tile.y × (address % 4 ≡ 0) × (address < MEMORY_SIZE) × (word < 2 ^ 32)
IsGood set (Misses tile turns) = IsOn set.topo tile.x tile.y × AreFew turns × (list_all (λ n. nat_lt n 256) turns ≡ true)
IsGood set (Show tile address words) = IsOn set.topo tile.x tile.y × (address % 4 ≡ 0) × (0 < words) × (address + 4 * words ≤ MEMORY_SIZE)
IsGood set (Tile tile code) = IsOn set.topo tile.x tile.y × (length code ≤ MAX_TILE_CODE) × AllByRecursion IsTileIns code
IsGood set (Switch tile code) = IsOn set.topo tile.x tile.y × (length code ≤ MAX_SWITCH_CODE) × All IsSwitchIns code × All (λ ins. IsTrue (are_wired (wired_at set.topo tile) ins)) code
IsGood set _ = ⊥

near : (set : ProgramSet) → IsSet set → (x y : ℕ) → IsOn set.topo x y → IsNear x y
near set is x y on =
    let column = on.column in let row = on.row in let columns = is.topology.size.most_cols in let rows = is.topology.size.most_rows in
    record { x_fits = omega arith; y_fits = omega arith }

pub good_writable : (set : ProgramSet) → IsSet set → (entry : Entry) → IsGood set entry → IsWritable entry
good_writable set is (Depth n) good = let most = good.1 in omega arith
good_writable set is (Port place capacity) good = (near set is place.x place.y good.0, good.3)
good_writable set is (Feed place words) good = (near set is place.x place.y good.0, good.1, good.3)
good_writable set is (Data tile address (word ∷ [])) good =
    let inside = good.2 in
    (near set is tile.x tile.y good.0, record { fits = omega arith; aligned = good.1 }, record { some = omega arith; few = omega arith; fit = (good.3, tt) })
good_writable set is (Misses tile turns) good = (near set is tile.x tile.y good.0, good.1)
good_writable set is (Show tile address words) good =
    let inside = good.3 in
    (near set is tile.x tile.y good.0, record { fits = omega arith; aligned = good.1 }, good.2, omega arith)
good_writable set is (Tile tile code) good = (near set is tile.x tile.y good.0, good.1, good.2)
good_writable set is (Switch tile code) good = (near set is tile.x tile.y good.0, good.1, good.2)
good_writable set is _ good = absurd good

-- the wires that an instruction of the switch of tile t needs
wires_are : (topo : Topology) (t : ℕ) (ins : SwitchInstruction) → are_wired (wired_at topo (tile_at topo.cols t)) ins ≡ has_wires topo (tile_count topo + t) ins
wires_are topo t ins =
    wired_as topo (tile_at topo.cols t) ins ∙ ap (λ n. has_wires topo (tile_count topo + n) ins) (div-add-mod' t topo.cols)

few_piece : (size n : ℕ) (xs : List ℕ) → 0 < size → size ≤ 16 → AreWords xs → n * size < length xs → AreFew (take size (drop (n * size) xs))
few_piece size n xs some most words lt =
    let dropped = length-drop (n * size) xs in
    let taken = length-take size (drop (n * size) xs) in
    record {
      some = omega arith;
      few = omega arith;
      fit = all_taken (λ w. w < 2 ^ 32) size (drop (n * size) xs) (all_dropped (λ w. w < 2 ^ 32) (n * size) xs words);
    }

low_all : (xs : List ℕ) → AllByRecursion (λ n. n < 256) xs → list_all (λ n. nat_lt n 256) xs ≡ true
low_all [] all = refl
low_all (x ∷ xs) all =
    let here = all.0 in
    let test : nat_lt x 256 ≡ true = grind (arith, nat_tests) in
    rw (test, low_all xs all.1) refl

module _ (set : ProgramSet) (is : IsSet set) where
  depth_good : (test : Bool) → AllByRecursion (IsGood set) (if test then [] else Depth set.depth ∷ [])
  depth_good true = tt
  depth_good false = ((is.some_depth, is.small_depth), tt)

  sink_or_source : (k : PortKind) (port : PortProgram) → IsOfKind k port → port.capacity ≤ MAX_CAPACITY → HasCapacity k port.capacity
  sink_or_source kind.Source port of_kind most = of_kind
  sink_or_source kind.Sink port of_kind most = omega arith

  kind_at : (j : ℕ) (d : PortPlace) (e : PortProgram) → j < length set.topo.places → j < length set.ports → IsOfKind (get_or set.topo.places j d).kind (get_or set.ports j e)
  kind_at j d e lt le = is.port_kinds j (get_or set.topo.places j d) (get_or set.ports j e) (slice_get-get_or set.topo.places j d lt) (slice_get-get_or set.ports j e le)

  port_good : (j : ℕ) (d : PortPlace) (e : PortProgram) → j < length set.topo.places → j < length set.ports → IsGood set (port_entry (get_or set.topo.places j d, get_or set.ports j e))
  port_good j d e lt le =
      let at = is.topology.at_edges j d lt in
      let most = (is.port_programs j e le).capacity in
      (record { column = at.column; row = at.row }, at.edge, most, sink_or_source (get_or set.topo.places j d).kind (get_or set.ports j e) (kind_at j d e lt le) most)

  pub ports_good : AllByRecursion (IsGood set) (port_entries set)
  ports_good =
      all_join (IsGood set) (depth_entries set.depth) (map port_entry (placed_ports set)) (depth_good (set.depth == DEFAULT_DEPTH))
      (all_mapped (IsGood set) port_entry (placed_ports set) (all_paired (λ p. IsGood set (port_entry p)) set.topo.places set.ports port_good))

  feed_by : (k : PortKind) (place : PortPlace) (port : PortProgram) → place.kind ≡ k → IsOfKind k port → IsOn set.topo place.x place.y → list_any (same_place place) set.topo.places ≡ true → AreWords port.words
      → AllByRecursion (IsGood set) (feed_entries (place, port))
  feed_by kind.Source place port same of_kind on there words =
      all_mapped (IsGood set) (Feed place) (pieces 8 port.words)
      (all_ranged (λ piece. IsGood set (Feed place piece)) (λ n. take 8 (drop (n * 8) port.words)) 0 ((length port.words + 8 - 1) / 8)
      (λ n lt. (on, same, there, few_piece 8 n port.words (omega arith) (omega arith) words (omega arith))))
  feed_by kind.Sink place port same of_kind on there words =
      let none : (length port.words + 8 - 1) / 8 ≡ 0 = omega arith in
      subst (λ n. AllByRecursion (IsGood set) (map (Feed place) (map (λ n. take 8 (drop (n * 8) port.words)) (range_with_len 0 n)))) (sym none) tt

  feed_good : (j : ℕ) (d : PortPlace) (e : PortProgram) → j < length set.topo.places → j < length set.ports → AllByRecursion (IsGood set) (feed_entries (get_or set.topo.places j d, get_or set.ports j e))
  feed_good j d e lt le =
      let place = get_or set.topo.places j d in
      let port = get_or set.ports j e in
      let at = is.topology.at_edges j d lt in
      feed_by place.kind place port refl (kind_at j d e lt le) (record { column = at.column; row = at.row })
      (list_any_at (same_place place) set.topo.places j d lt (place_itself place))
      (all_of (λ w. w < 2 ^ 32) port.words (is.port_programs j e le).words)

  on_grid : (t : ℕ) → t < tile_count set.topo → IsOn set.topo (t % set.topo.cols) (t / set.topo.cols)
  on_grid t lt = let some = is.topology.size.some_cols in
      let within : t < set.topo.rows * set.topo.cols = subst (λ n. t < n) (mul_comm set.topo.cols set.topo.rows) lt in
      record { column = omega arith; row = (div-lt_iff_lt-mul {k = set.topo.cols} {x = t} {y = set.topo.rows} some).1 within }

  tile_on : (j : ℕ) → j < length set.tiles → IsOn set.topo ((0 + j) % set.topo.cols) ((0 + j) / set.topo.cols)
  tile_on j lt = on_grid (0 + j) (let count = is.each_tile in omega arith)

  memory_good : (j : ℕ) (d : TileProgram) → j < length set.tiles → AllByRecursion (IsGood set) (memory_entries set.topo.cols (0 + j, get_or set.tiles j d))
  unfolding memory_size
  memory_good j d lt =
      let tile = get_or set.tiles j d in
      let lawful = is.tile_programs j d lt in
      let at = tile_at set.topo.cols (0 + j) in
      let low : AllByRecursion (λ n. n < 256) tile.misses = all_of (λ n. n < 256) tile.misses lawful.misses in
      let words : AreWords tile.misses = all_gives (λ n. n < 256) (λ n. n < 2 ^ 32) (λ n small. omega arith) tile.misses low in
      all_join (IsGood set) (map (data_entry_of set.topo.cols (0 + j)) tile.cells) (map (Misses at) (pieces 16 tile.misses))
      (all_mapped (IsGood set) (data_entry_of set.topo.cols (0 + j)) tile.cells
      (all_of (λ cell. IsGood set (data_entry_of set.topo.cols (0 + j) cell)) tile.cells
      (λ k e le. let cell = lawful.cells k e le in (tile_on j lt, cell.aligned, cell.inside, cell.word))))
      (all_mapped (IsGood set) (Misses at) (pieces 16 tile.misses)
      (all_ranged (λ piece. IsGood set (Misses at piece)) (λ n. take 16 (drop (n * 16) tile.misses)) 0 ((length tile.misses + 16 - 1) / 16)
      (λ n le. (
        tile_on j lt,
        few_piece 16 n tile.misses (omega arith) (omega arith) words (omega arith),
        low_all (take 16 (drop (n * 16) tile.misses)) (all_taken (λ n. n < 256) 16 (drop (n * 16) tile.misses) (all_dropped (λ n. n < 256) (n * 16) tile.misses low)),
      ))))

  show_good : (j : ℕ) (d : Shown) → j < length set.shows → IsGood set (show_entry_of set.topo.cols (get_or set.shows j d))
  unfolding memory_size
  show_good j d lt = let show = is.shows j d lt in (on_grid (get_or set.shows j d).tile show.tile, show.aligned, show.some, show.inside)

  code_good : (j : ℕ) → j < length set.tiles → (code : List Instruction) → All IsTileIns code → length code ≤ MAX_TILE_CODE → AllByRecursion (IsGood set) (code_entries (tile_at set.topo.cols (0 + j)) code)
  code_good j lt [] all few = tt
  code_good j lt (i ∷ code) all few = ((tile_on j lt, few, all_of IsTileIns (i ∷ code) all), tt)

  switch_good : (j : ℕ) → j < length set.tiles → (code : List SwitchInstruction) → All IsSwitchIns code → length code ≤ MAX_SWITCH_CODE → All (λ ins. has_wires set.topo (tile_count set.topo + j) ins ≡ true) code
      → AllByRecursion (IsGood set) (switch_entries (tile_at set.topo.cols (0 + j)) code)
  switch_good j lt [] all few wired = tt
  switch_good j lt (i ∷ code) all few wired =
      let e : 0 + j ≡ j = omega arith in
      ((tile_on j lt, few, all, λ k d le. wires_are set.topo (0 + j) (get_or (i ∷ code) k d) ∙ ap (λ n. has_wires set.topo (tile_count set.topo + n) (get_or (i ∷ code) k d)) e ∙ wired k d le), tt)

  program_good : (j : ℕ) (d : TileProgram) → j < length set.tiles → AllByRecursion (IsGood set) (program_entries set.topo.cols (0 + j, get_or set.tiles j d))
  program_good j d lt =
      let tile = get_or set.tiles j d in
      let lawful = is.tile_programs j d lt in
      let at = tile_at set.topo.cols (0 + j) in
      all_join (IsGood set) (code_entries at tile.code) (switch_entries at tile.switch) (code_good j lt tile.code lawful.instructions lawful.few)
      (switch_good j lt tile.switch lawful.switch_instructions lawful.few_switch (is.wires j tile (slice_get-get_or set.tiles j d lt)))

  pub later_good : AllByRecursion (IsGood set) (later_entries set)
  later_good =
      let good = IsGood set in
      let numbered = enumerate_from 0 set.tiles in
      all_join good (flat_map feed_entries (placed_ports set)) _
      (all_grouped good feed_entries (placed_ports set) (all_paired (λ p. AllByRecursion good (feed_entries p)) set.topo.places set.ports feed_good))
      (all_join good (flat_map (memory_entries set.topo.cols) numbered) _
      (all_grouped good (memory_entries set.topo.cols) numbered (all_numbered (λ p. AllByRecursion good (memory_entries set.topo.cols p)) set.tiles 0 memory_good))
      (all_join good (map (show_entry_of set.topo.cols) set.shows) _
      (all_mapped good (show_entry_of set.topo.cols) set.shows (all_of (λ s. good (show_entry_of set.topo.cols s)) set.shows show_good))
      (all_grouped good (program_entries set.topo.cols) numbered (all_numbered (λ p. AllByRecursion good (program_entries set.topo.cols p)) set.tiles 0 program_good))))

  grid_writable : IsWritable (Grid set.topo.cols set.topo.rows)
  grid_writable =
      let columns = is.topology.size.most_cols in let rows = is.topology.size.most_rows in
      record { x_fits = omega arith; y_fits = omega arith }

  limit_writable : set.limit < 2 ^ 32
  limit_writable = let most = is.few_steps in omega arith

  pub first_writable : AllByRecursion IsWritable (first_entries set)
  first_writable = (grid_writable, (limit_writable, tt))

  pub ports_writable : AllByRecursion IsWritable (port_entries set)
  ports_writable = all_gives (IsGood set) IsWritable (good_writable set is) (port_entries set) ports_good

  pub later_writable : AllByRecursion IsWritable (later_entries set)
  later_writable = all_gives (IsGood set) IsWritable (good_writable set is) (later_entries set) later_good

  -- each entry of a set is one that lines say
  pub set_writable : AllByRecursion IsWritable (set_entries set)
  set_writable =
      all_join IsWritable (first_entries set) (port_entries set ++ later_entries set) first_writable
      (all_join IsWritable (port_entries set) (later_entries set) ports_writable later_writable)
