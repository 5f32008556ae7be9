-- The entries of a set declare the set.
use Rattle.std.proofs.Common.{◌≡◌, ℕ, suc, ◌+◌, ◌*◌, ◌<◌, Bool, true, false, List, [], ◌∷◌, length, get_or, map, All, refl, sym, ap, ◌∙◌, arith}
use Rattle.std.specs.Prelude.{◌==◌, if◌then◌else◌}
use Rattle.std.specs.Option.{option_to_list}
use Rattle.std.specs.List.{flat_map, filter_map, range_with_len, AllByRecursion}
use Rattle.std.proofs.lemmas.Bool.Decides.{nat_tests}
use Rattle.std.proofs.lemmas.List.{ext_get_or}
use Rattle.std.proofs.lemmas.List.FromFn.{length-map-range_with_len, get_or-map-range_with_len}
use Rattle.std.proofs.lemmas.Nat.{div-add-mod'}
use Rattle.raw_tile_isa.specs.Instruction.{Instruction}
use Rattle.raw_switch_isa.specs.Instruction.{SwitchInstruction}
use Rattle.raw_grid.specs.Topology.{Topology, tile_count}
use Rattle.raw_model.specs.declared.limits.TheConstants.{MEMORY_WORDS, DEFAULT_DEPTH}
use Rattle.raw_model.specs.declared.program.DataWord.{DataWord}
use Rattle.raw_model.specs.declared.program.Show.{Show as Shown}
use Rattle.raw_model.specs.Program.{ProgramSet, TileProgram, PortProgram, IsDataWord, IsTileProgram, IsSet, memory_size}
use Rattle.raw_set_text.specs.Entry.Entry.{Depth}
use Rattle.raw_set_text.specs.Entries.{first_or, depth_in, depths_of, show_in, shows_of, given_at, cell_of, addresses, codes_of, switches_of, misses_in, topology_of, ports_of, tile_of, tiles_of, set_of}
use Rattle.raw_set_text.proofs.Listed.Lists.{later_is}
use Rattle.raw_set_text.proofs.Listed.Entries.{depth_entries, show_entry_of, set_entries}
use Rattle.raw_set_text.proofs.Listed.Parts.{filter_map_is, flat_of_map, only_depth, only_shows}
use Rattle.raw_set_text.proofs.Listed.Ports.{topology_is, ports_are}
use Rattle.raw_set_text.proofs.Listed.Tiles.{first_code, codes_are, switches_are, given_are, misses_are}
use Rattle.raw_set_text.proofs.Listed.Cells.{IsFrom, cells_back}

-- the depth
depth_by : (depth : ℕ) (test : Bool) → (depth == DEFAULT_DEPTH) ≡ test → first_or DEFAULT_DEPTH (flat_map (λ e. option_to_list (depth_in e)) (if test then [] else Depth depth ∷ [])) ≡ depth
depth_by depth true e = (let four : depth ≡ DEFAULT_DEPTH = grind (arith, nat_tests) in sym four)
depth_by depth false e = refl

pub depths_are : (set : ProgramSet) → depths_of (set_entries set) ≡ flat_map (λ e. option_to_list (depth_in e)) (depth_entries set.depth)
depths_are set =
    filter_map_is depth_in (set_entries set)
    ∙ only_depth (λ e. option_to_list (depth_in e)) set refl (λ p c. refl) (λ p w. refl) (λ t a w. refl) (λ t w. refl) (λ t a n. refl) (λ t w. refl) (λ t w. refl)

depth_is : (set : ProgramSet) → first_or DEFAULT_DEPTH (depths_of (set_entries set)) ≡ set.depth
depth_is set = ap (first_or DEFAULT_DEPTH) (depths_are set) ∙ depth_by set.depth (set.depth == DEFAULT_DEPTH) refl

-- the words that are shown
abbrev the_show : ℕ → Shown → Shown
the_show t s = record { tile = t; address = s.address; words = s.words }

shows_back : (columns : ℕ) (shows : List Shown) → flat_map (λ s. option_to_list (show_in columns (show_entry_of columns s))) shows ≡ shows
shows_back columns [] = refl
shows_back columns (s ∷ shows) =
    ap (λ t. the_show t s ∷ flat_map (λ s. option_to_list (show_in columns (show_entry_of columns s))) shows) (div-add-mod' s.tile columns) ∙ ap (λ l. s ∷ l) (shows_back columns shows)

pub shows_are : (set : ProgramSet) → shows_of (set_entries set) ≡ set.shows
shows_are set =
    filter_map_is (show_in set.topo.cols) (set_entries set)
    ∙ only_shows (λ e. option_to_list (show_in set.topo.cols e)) set refl (λ d. refl) (λ p c. refl) (λ p w. refl) (λ t a w. refl) (λ t w. refl) (λ t w. refl) (λ t w. refl)
    ∙ flat_of_map (λ e. option_to_list (show_in set.topo.cols e)) (show_entry_of set.topo.cols) set.shows
    ∙ shows_back set.topo.cols set.shows

-- the words of a memory
pub inside_of : (cells : List DataWord) → All IsDataWord cells → AllByRecursion (IsFrom 0 (0 + MEMORY_WORDS)) cells
unfolding memory_size
inside_of [] all = tt
inside_of (cell ∷ cells) all =
    let is = all 0 cell (omega arith) in
    let high = is.inside in
    (record { aligned = is.aligned; low = omega arith; high = omega arith }, inside_of cells (λ k d lt. all (suc k) d (omega arith)))

abbrev the_tile : List Instruction → List SwitchInstruction → List DataWord → List ℕ → TileProgram
the_tile code switch cells misses = record { code = code; switch = switch; cells = cells; misses = misses }

abbrev the_set : Topology → ℕ → ℕ → List PortProgram → List TileProgram → List Shown → ProgramSet
the_set topo limit depth ports tiles shows = record { topo = topo; limit = limit; depth = depth; ports = ports; tiles = tiles; shows = shows }

module _ (set : ProgramSet) (is : IsSet set) (t : ℕ) (lt : t < length set.tiles) (d : TileProgram) where
  abbrev tile : TileProgram
  tile = get_or set.tiles t d

  lawful : IsTileProgram tile
  lawful = is.tile_programs t d lt

  cells_are : filter_map (cell_of (set_entries set) t) addresses ≡ tile.cells
  cells_are =
      cells_back (given_at (set_entries set) t) tile.cells 0 MEMORY_WORDS (λ i le. given_are set t lt d (4 * i)) (later_is (λ (a b : DataWord). a.address < b.address) tile.cells lawful.rising) (inside_of tile.cells lawful.cells)

  pub tile_is : tile_of (set_entries set) t ≡ get_or set.tiles t d
  unfolding tile_of
  tile_is =
      let entries = set_entries set in
      let switch_was = first_or [] (switches_of entries t) in
      let cells_were = filter_map (cell_of entries t) addresses in
      let misses_were = flat_map (misses_in set.topo.cols t) entries in
      let code : first_or [] (codes_of (set_entries set) t) ≡ tile.code = ap (first_or []) (codes_are set t lt d) ∙ first_code tile.code in
      let switch : first_or [] (switches_of (set_entries set) t) ≡ tile.switch = ap (first_or []) (switches_are set t lt d) ∙ first_code tile.switch in
      ap (λ x. the_tile x switch_was cells_were misses_were) code
      ∙ ap (λ x. the_tile tile.code x cells_were misses_were) switch
      ∙ ap (λ x. the_tile tile.code tile.switch x misses_were) cells_are
      ∙ ap (λ x. the_tile tile.code tile.switch tile.cells x) (misses_are set t lt d)

pub tiles_are : (set : ProgramSet) → IsSet set → tiles_of (set_entries set) ≡ set.tiles
unfolding tiles_of
tiles_are set is =
    let entries = set_entries set in
    let count : tile_count (topology_of entries) ≡ length set.tiles = ap tile_count (topology_is set is) ∙ sym is.each_tile in
    let d : TileProgram = record { code = []; switch = []; cells = []; misses = [] } in
    let long = length-map-range_with_len (tile_of entries) 0 (length set.tiles) in
    ap (λ n. map (tile_of entries) (range_with_len 0 n)) count
    ∙ ext_get_or d (map (tile_of entries) (range_with_len 0 (length set.tiles))) set.tiles long
    (λ i lt. get_or-map-range_with_len (tile_of entries) 0 (length set.tiles) i i d (omega arith) (omega arith) ∙ tile_is set is i (omega arith) d)

pub set_is : (set : ProgramSet) → IsSet set → set_of (set_entries set) ≡ set
unfolding set_of
set_is set is =
    let entries = set_entries set in
    let depth_was = first_or DEFAULT_DEPTH (depths_of entries) in
    ap (λ x. the_set x set.limit depth_was (ports_of entries) (tiles_of entries) (shows_of entries)) (topology_is set is)
    ∙ ap (λ x. the_set set.topo set.limit x (ports_of entries) (tiles_of entries) (shows_of entries)) (depth_is set)
    ∙ ap (λ x. the_set set.topo set.limit set.depth x (tiles_of entries) (shows_of entries)) (ports_are set is)
    ∙ ap (λ x. the_set set.topo set.limit set.depth set.ports x (shows_of entries)) (tiles_are set is)
    ∙ ap (λ x. the_set set.topo set.limit set.depth set.ports set.tiles x) (shows_are set)
