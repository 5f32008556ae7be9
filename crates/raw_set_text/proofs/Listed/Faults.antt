-- No entry of a set has a fault behind those before it.
use Rattle.std.proofs.Common.{◌≡◌, ◌≢◌, ℕ, ◌+◌, ◌-◌, ◌*◌, ◌/◌, ◌<◌, ◌≤◌, Bool, true, false, List, [], ◌∷◌, ◌++◌, length, get_or, All, Option, Some, None, refl, sym, ap, ◌∙◌, subst, arith, length-append}
use Rattle.std.specs.Prelude.{◌==◌, IsTrue, is_some, nat_le, nat_lt, if◌then◌else◌}
use Rattle.std.specs.Option.{option_to_list}
use Rattle.std.specs.List.{flat_map, filter_map, cons_option, list_any, sum_by, AllByRecursion}
use Rattle.std.proofs.lemmas.List.Sums.{sum_by-cons, sum_by-append}
use Rattle.std.proofs.lemmas.List.Elements.{filter_map-append}
use Rattle.std.proofs.lemmas.Nat.{mul-add-lt}
use Rattle.raw_tile_isa.specs.Instruction.{Instruction}
use Rattle.raw_switch_isa.specs.Instruction.{SwitchInstruction}
use Rattle.raw_grid.specs.declared.parts.Side.{Side}
use Rattle.raw_grid.specs.declared.parts.Side.TheVariants as side
use Rattle.raw_grid.specs.declared.parts.PortPlace.{PortPlace}
use Rattle.raw_grid.specs.Topology.{Topology, neighbour}
use Rattle.raw_model.specs.declared.limits.TheConstants.{MAX_DEPTH, MEMORY_SIZE, MAX_ALL_CODE, MAX_ALL_SWITCH_CODE, MAX_ALL_CELLS, MAX_ALL_MISSES, MAX_ALL_WORDS, MAX_CAPACITY, MAX_ALL_CAPACITIES, MAX_SHOWS, MAX_ALL_SHOWN, DEFAULT_DEPTH}
use Rattle.raw_model.specs.declared.program.DataWord.{DataWord}
use Rattle.raw_model.specs.Program.{ProgramSet, TileProgram, IsSet, memory_size}
use Rattle.raw_switch_asm.specs.Statement.{are_wired}
use Rattle.raw_set_text.specs.declared.declaration.Position.{Position}
use Rattle.raw_set_text.specs.Entry.{Entry, same_place}
use Rattle.raw_set_text.specs.Entry.Entry.{Grid, Limit, Depth, Port, Feed, Data, Misses, Show, Tile, Switch}
use Rattle.raw_set_text.specs.Entries.{place_in, depth_in, code_in, switch_in, word_in, places_of, topology_of, depths_of, codes_of, switches_of, given_at}
use Rattle.raw_set_text.specs.Faults.{is_outside, number_of_tile, capacity_in, fed_in, cells_in, turns_in, shows_in, shown_in, instructions_in, routed_in, entry_fault}
use Rattle.raw_set_text.specs.Sections.{wired_at}
use Rattle.raw_set_text.proofs.Listed.Lists.{is_less, not_less, is_most, is_itself, none_left, later_is}
use Rattle.raw_set_text.proofs.Listed.Entries.{set_entries}
use Rattle.raw_set_text.proofs.Listed.Steps.{CanFollow}
use Rattle.raw_set_text.proofs.Places.{place_other}
use Rattle.raw_set_text.proofs.Listed.Ports.{AllDiffer, the_topology, places_are}
use Rattle.raw_set_text.proofs.Listed.Tiles.{some_code, codes_are, switches_are, given_are}
use Rattle.raw_set_text.proofs.Listed.Cells.{hits_few}
use Rattle.raw_set_text.proofs.Listed.Set.{depths_are, inside_of}
use Rattle.raw_set_text.proofs.Listed.Sums.{capacities, words, cells, turns, instructions, routed, shows, shown}
use Rattle.raw_set_text.proofs.Listed.Good.{IsOn, IsGood}

-- what is once in all entries is not among those before it
once_in : {A : Type 0} (h : Entry → Option A) (front back : List Entry) (entry : Entry) (y : A) → h entry ≡ Some y → length (filter_map h (front ++ entry ∷ back)) ≤ 1 → filter_map h front ≡ []
once_in h front back entry y e few =
    let cut : filter_map h (front ++ entry ∷ back) ≡ filter_map h front ++ y ∷ filter_map h back =
    filter_map-append h front (entry ∷ back) ∙ ap (λ o. filter_map h front ++ cons_option o (filter_map h back)) e in
    let long = ap length cut in
    let count = length-append (filter_map h front) (y ∷ filter_map h back) in
    none_left (filter_map h front) (omega arith)

-- a place that differs from all others is not among those before it
differs_before : (before after : List PortPlace) (place : PortPlace) → AllDiffer (before ++ place ∷ after) → list_any (same_place place) before ≡ false
differs_before [] after place all = refl
differs_before (other ∷ before) after place all = rw (place_other place other (λ e. first_differs before all.0 (sym e)), differs_before before after place all.1) refl
  where
    first_differs : (xs : List PortPlace) → AllByRecursion (λ y. other ≢ y) (xs ++ place ∷ after) → other ≢ place
    first_differs [] all = all.0
    first_differs (x ∷ xs) all = first_differs xs all.1

ap_le : {A : Type 0} {xs ys : List A} → xs ≡ ys → length ys ≤ 1 → length xs ≤ 1
ap_le e le = let same = ap length e in omega arith

few_codes : {I : Type 0} (code : List I) → length (some_code code) ≤ 1
few_codes [] = omega arith
few_codes (i ∷ code) = omega arith

few_depths : (depth : ℕ) (test : Bool) → length (flat_map (λ e. option_to_list (depth_in e)) (if test then [] else Depth depth ∷ [])) ≤ 1
few_depths depth true = omega arith
few_depths depth false = omega arith

-- entries that want all ports before them
abbrev pub IsLate : Entry → Type 0
IsLate (Feed place given) = Unit {0}
IsLate (Switch tile code) = Unit {0}
IsLate entry = ⊥

module _ (set : ProgramSet) (is : IsSet set) (f back : List Entry) (entry : Entry)
    (whole : set_entries set ≡ (Grid set.topo.cols set.topo.rows ∷ Limit set.limit ∷ f) ++ entry ∷ back) where
  abbrev front : List Entry
  front = Grid set.topo.cols set.topo.rows ∷ Limit set.limit ∷ f

  -- a total is not past its most
  within : (adds : Entry → ℕ) (most : ℕ) → sum_by adds (set_entries set) ≤ most → sum_by adds front + adds entry ≤ most
  within adds most le =
      let all = ap (sum_by adds) whole in
      let cut = sum_by-append adds front (entry ∷ back) in
      let last = sum_by-cons adds entry back in
      omega arith

  not_past : (adds : Entry → ℕ) (most : ℕ) → sum_by adds (set_entries set) ≤ most → nat_lt most (sum_by adds front + adds entry) ≡ false
  not_past adds most le = not_less most (sum_by adds front + adds entry) (within adds most le)

  once : {A : Type 0} (h : Entry → Option A) (y : A) → h entry ≡ Some y → length (filter_map h (set_entries set)) ≤ 1 → filter_map h front ≡ []
  once h y e few = once_in h front back entry y e (subst (λ es. length (filter_map h es) ≤ 1) whole few)

  on_grid : (x y : ℕ) → IsOn set.topo x y → is_outside set.topo.cols set.topo.rows (Some (record { x = x; y = y })) ≡ false
  on_grid x y on = rw (is_less x set.topo.cols on.column, is_less y set.topo.rows on.row) refl

  at_edge : (x y : ℕ) (s : Side) → is_some (neighbour (topology_of front) x y s) ≡ is_some (neighbour set.topo x y s)
  unfolding topology_of
  at_edge x y side.N = refl
  at_edge x y s = refl

  numbered : (tile : Position) → IsOn set.topo tile.x tile.y → number_of_tile front tile < length set.tiles
  numbered tile on =
      let lt = mul-add-lt tile.y set.topo.cols tile.x set.topo.rows on.row on.column in
      let count = is.each_tile in
      omega arith

  port_new : (place : PortPlace) → place_in entry ≡ Some place → list_any (same_place place) (places_of front) ≡ false
  port_new place e =
      let cut : set.topo.places ≡ places_of front ++ place ∷ places_of back =
      sym (places_are set is) ∙ ap places_of whole ∙ filter_map-append place_in front (entry ∷ back) ∙ ap (λ o. places_of front ++ cons_option o (places_of back)) e in
      differs_before (places_of front) (places_of back) place (subst (λ ps. AllDiffer ps) cut (later_is (λ a b. a ≢ b) set.topo.places is.topology.distinct))

  depth_free : (d : ℕ) → entry ≡ Depth d → IsGood set (Depth d) → entry_fault front (Depth d) ≡ None
  unfolding entry_fault
  depth_free d e good =
      let few : length (depths_of (set_entries set)) ≤ 1 = ap_le (depths_are set) (few_depths set.depth (set.depth == DEFAULT_DEPTH)) in
      let new : depths_of front ≡ [] = once depth_in d (ap depth_in e) few in
      rw (new, is_most 1 d good.0, is_most d MAX_DEPTH good.1) refl

  port_free : (place : PortPlace) (capacity : ℕ) → entry ≡ Port place capacity → IsGood set (Port place capacity) → entry_fault front (Port place capacity) ≡ None
  unfolding entry_fault
  port_free place capacity e good =
      let edge : is_some (neighbour (topology_of front) place.x place.y place.side) ≡ false = at_edge place.x place.y place.side ∙ good.1 in
      let past : nat_lt MAX_ALL_CAPACITIES (sum_by capacity_in front + capacity) ≡ false =
      subst (λ x. nat_lt MAX_ALL_CAPACITIES (sum_by capacity_in front + capacity_in x) ≡ false) e (not_past capacity_in MAX_ALL_CAPACITIES (capacities set is)) in
      rw (on_grid place.x place.y good.0, edge, port_new place (ap place_in e), not_less MAX_CAPACITY capacity good.2, past) refl

  feed_free : (place : PortPlace) (given : List ℕ) → entry ≡ Feed place given → places_of front ≡ set.topo.places → IsGood set (Feed place given) → entry_fault front (Feed place given) ≡ None
  unfolding entry_fault
  feed_free place given e placed good =
      let there : list_any (same_place place) (places_of front) ≡ true = ap (list_any (same_place place)) placed ∙ good.2 in
      let past : nat_lt MAX_ALL_WORDS (sum_by fed_in front + length given) ≡ false =
      subst (λ x. nat_lt MAX_ALL_WORDS (sum_by fed_in front + fed_in x) ≡ false) e (not_past fed_in MAX_ALL_WORDS (words set is)) in
      rw (on_grid place.x place.y good.0, there, past) refl

  misses_free : (tile : Position) (given : List ℕ) → entry ≡ Misses tile given → IsGood set (Misses tile given) → entry_fault front (Misses tile given) ≡ None
  unfolding entry_fault
  misses_free tile given e good =
      let past : nat_lt MAX_ALL_MISSES (sum_by turns_in front + length given) ≡ false =
      subst (λ x. nat_lt MAX_ALL_MISSES (sum_by turns_in front + turns_in x) ≡ false) e (not_past turns_in MAX_ALL_MISSES (turns set is)) in
      rw (on_grid tile.x tile.y good.0, good.2, past) refl

  show_free : (tile : Position) (address n : ℕ) → entry ≡ Show tile address n → IsGood set (Show tile address n) → entry_fault front (Show tile address n) ≡ None
  unfolding entry_fault memory_size
  show_free tile address n e good =
      let one : nat_lt MAX_SHOWS (sum_by shows_in front + 1) ≡ false =
      subst (λ x. nat_lt MAX_SHOWS (sum_by shows_in front + shows_in x) ≡ false) e (not_past shows_in MAX_SHOWS (shows set is)) in
      let past : nat_lt MAX_ALL_SHOWN (sum_by shown_in front + n) ≡ false =
      subst (λ x. nat_lt MAX_ALL_SHOWN (sum_by shown_in front + shown_in x) ≡ false) e (not_past shown_in MAX_ALL_SHOWN (shown set is)) in
      rw (on_grid tile.x tile.y good.0, not_less MEMORY_SIZE (address + 4 * n) good.3, one, past) refl

  tile_free : (tile : Position) (code some : List Instruction) → entry ≡ Tile tile code → length some ≤ length code → IsGood set (Tile tile code) → entry_fault front (Tile tile some) ≡ None
  unfolding entry_fault
  tile_free tile code some e le good =
      let t = number_of_tile front tile in
      let d : TileProgram = record { code = []; switch = []; cells = []; misses = [] } in
      let few : length (codes_of (set_entries set) t) ≤ 1 = ap_le (codes_are set t (numbered tile good.0) d) (few_codes (get_or set.tiles t d).code) in
      let own : code_in set.topo.cols t entry ≡ Some code = ap (code_in set.topo.cols t) e ∙ rw (is_itself t) refl in
      let new : codes_of front t ≡ [] = once (code_in set.topo.cols t) code own few in
      let past : sum_by instructions_in front + length code ≤ MAX_ALL_CODE =
      subst (λ x. sum_by instructions_in front + instructions_in x ≤ MAX_ALL_CODE) e (within instructions_in MAX_ALL_CODE (instructions set is)) in
      rw (on_grid tile.x tile.y good.0, new, not_less MAX_ALL_CODE (sum_by instructions_in front + length some) (omega arith)) refl

  switch_free : (tile : Position) (code some : List SwitchInstruction) → entry ≡ Switch tile code → length some ≤ length code → IsGood set (Switch tile code) → entry_fault front (Switch tile some) ≡ None
  unfolding entry_fault
  switch_free tile code some e le good =
      let t = number_of_tile front tile in
      let d : TileProgram = record { code = []; switch = []; cells = []; misses = [] } in
      let few : length (switches_of (set_entries set) t) ≤ 1 = ap_le (switches_are set t (numbered tile good.0) d) (few_codes (get_or set.tiles t d).switch) in
      let own : switch_in set.topo.cols t entry ≡ Some code = ap (switch_in set.topo.cols t) e ∙ rw (is_itself t) refl in
      let new : switches_of front t ≡ [] = once (switch_in set.topo.cols t) code own few in
      let past : sum_by routed_in front + length code ≤ MAX_ALL_SWITCH_CODE =
      subst (λ x. sum_by routed_in front + routed_in x ≤ MAX_ALL_SWITCH_CODE) e (within routed_in MAX_ALL_SWITCH_CODE (routed set is)) in
      rw (on_grid tile.x tile.y good.0, new, not_less MAX_ALL_SWITCH_CODE (sum_by routed_in front + length some) (omega arith)) refl

  data_free : (tile : Position) (address word : ℕ) → entry ≡ Data tile address (word ∷ []) → IsGood set (Data tile address (word ∷ [])) → entry_fault front (Data tile address (word ∷ [])) ≡ None
  unfolding entry_fault memory_size
  data_free tile address word e good =
      let t = number_of_tile front tile in
      let d : TileProgram = record { code = []; switch = []; cells = []; misses = [] } in
      let lt = numbered tile good.0 in
      let program = get_or set.tiles t d in
      let lawful = is.tile_programs t d lt in
      let a = address + 4 * 0 in
      let aligned = good.1 in
      let few : length (given_at (set_entries set) t a) ≤ 1 =
      ap_le (given_are set t lt d a) (hits_few a program.cells (omega arith) (inside_of program.cells lawful.cells) (later_is (λ (a b : DataWord). a.address < b.address) program.cells lawful.rising)) in
      let low : nat_le address a ≡ true = is_most address a (omega arith) in
      let high : nat_lt a (address + 4 * 1) ≡ true = is_less a (address + 4 * 1) (omega arith) in
      let first : (a - address) / 4 ≡ 0 = omega arith in
      let own : word_in set.topo.cols t a entry ≡ Some word = ap (word_in set.topo.cols t a) e ∙ rw (is_itself t, low, high, first) refl in
      let new : given_at front t a ≡ [] = once (word_in set.topo.cols t a) word own few in
      let one : nat_lt MAX_ALL_CELLS (sum_by cells_in front + 1) ≡ false =
      subst (λ x. nat_lt MAX_ALL_CELLS (sum_by cells_in front + cells_in x) ≡ false) e (not_past cells_in MAX_ALL_CELLS (cells set is)) in
      let inside = good.2 in
      rw (on_grid tile.x tile.y good.0, new, not_less MEMORY_SIZE (address + 4 * 1) (omega arith), one) refl

  topology_of_front : places_of front ≡ set.topo.places → topology_of front ≡ set.topo
  unfolding topology_of
  topology_of_front placed = ap (λ places. the_topology set places) placed

  -- an entry can stand behind those before it
  pub can_follow : IsGood set entry → (IsLate entry → places_of front ≡ set.topo.places) → CanFollow front entry
  can_follow good late = by_entry entry refl good late
    where
      by_entry : (e : Entry) → entry ≡ e → IsGood set e → (IsLate e → places_of front ≡ set.topo.places) → CanFollow front e
      by_entry (Depth d) e good late = let free = depth_free d e good in record { due = refl; head = free; lawful = free; wired = tt }
      by_entry (Port place capacity) e good late = let free = port_free place capacity e good in record { due = refl; head = free; lawful = free; wired = tt }
      by_entry (Feed place given) e good late = let free = feed_free place given e (late tt) good in record { due = refl; head = free; lawful = free; wired = tt }
      by_entry (Data tile address (word ∷ [])) e good late = let free = data_free tile address word e good in record { due = refl; head = free; lawful = free; wired = tt }
      by_entry (Misses tile given) e good late = let free = misses_free tile given e good in record { due = refl; head = free; lawful = free; wired = tt }
      by_entry (Show tile address n) e good late = let free = show_free tile address n e good in record { due = refl; head = free; lawful = free; wired = tt }
      by_entry (Tile tile code) e good late =
          record { due = refl; head = tile_free tile code [] e (omega arith) good; lawful = tile_free tile code code e (omega arith) good; wired = tt }
      by_entry (Switch tile code) e good late =
          record {
            due = refl;
            head = switch_free tile code [] e (omega arith) good;
            lawful = switch_free tile code code e (omega arith) good;
            wired = subst (λ (topo : Topology). All (λ ins. IsTrue (are_wired (wired_at topo tile) ins)) code) (sym (topology_of_front (late tt))) good.3;
          }
      by_entry other e good late = absurd good
