-- The parts of the entries of a set, and which of them say something of a kind.
use Rattle.std.proofs.Common.{◌≡◌, ℕ, zero, suc, ◌+◌, ◌-◌, ◌*◌, ◌/◌, ◌<◌, ◌≤◌, Bool, true, false, List, [], ◌∷◌, ◌++◌, length, take, drop, get_or, map, Option, Some, None, refl, sym, ap, ◌∙◌, ⊎_elim, arith, length-append, append_assoc, append-nil}
use Rattle.std.specs.Prelude.{◌==◌, if◌then◌else◌}
use Rattle.std.specs.Option.{option_to_list}
use Rattle.std.specs.List.{flat_map, filter_map, cons_option, sum_by, enumerate_from, range_with_len}
use Rattle.std.proofs.lemmas.Bool.{cases_lt}
use Rattle.std.proofs.lemmas.Bool.Decides.{nat_tests}
use Rattle.std.proofs.lemmas.Grind.{flat_map-append}
use Rattle.std.proofs.lemmas.List.{drop-drop, take_all}
use Rattle.std.proofs.lemmas.List.Sums.{sum_by-cons}
use Rattle.std.proofs.lemmas.List.FromFn.{length-range_with_len}
use Rattle.std.proofs.Math.Seq.{take-add}
use Rattle.std.proofs.Math.Nat.{add-mul}
use Rattle.raw_model.specs.declared.limits.TheConstants.{DEFAULT_DEPTH}
use Rattle.raw_tile_isa.specs.Instruction.{Instruction}
use Rattle.raw_switch_isa.specs.Instruction.{SwitchInstruction}
use Rattle.raw_grid.specs.declared.parts.PortPlace.{PortPlace}
use Rattle.raw_model.specs.declared.program.Show.{Show as Shown}
use Rattle.raw_model.specs.Program.{ProgramSet, TileProgram, PortProgram}
use Rattle.raw_set_text.specs.declared.declaration.Position.{Position}
use Rattle.raw_set_text.specs.Entry.{Entry}
use Rattle.raw_set_text.specs.Entry.Entry.{Depth, Port, Feed, Data, Misses, Show, Tile, Switch}
use Rattle.raw_set_text.specs.Listing.{pieces, placed_ports}
use Rattle.raw_set_text.proofs.Listed.Entries.{tile_at, port_entry, feed_entries, data_entry_of, memory_entries, show_entry_of, code_entries, switch_entries, program_entries, depth_entries, first_entries, port_entries, later_entries, set_entries}

-- the parts behind the first two entries and the depth
abbrev pub port_part : ProgramSet → List Entry
port_part set = map port_entry (placed_ports set)

abbrev pub feed_part : ProgramSet → List Entry
feed_part set = flat_map feed_entries (placed_ports set)

abbrev pub memory_part : ProgramSet → List Entry
memory_part set = flat_map (memory_entries set.topo.cols) (enumerate_from 0 set.tiles)

abbrev pub show_part : ProgramSet → List Entry
show_part set = map (show_entry_of set.topo.cols) set.shows

abbrev pub program_part : ProgramSet → List Entry
program_part set = flat_map (program_entries set.topo.cols) (enumerate_from 0 set.tiles)

-- what groups say is what each of them says
pub flat_flat : {X Y A : Type 0} (k : Y → List A) (f : X → List Y) (xs : List X) → flat_map k (flat_map f xs) ≡ flat_map (λ x. flat_map k (f x)) xs
flat_flat k f [] = refl
flat_flat k f (x ∷ xs) = flat_map-append k (f x) (flat_map f xs) ∙ ap (λ l. flat_map k (f x) ++ l) (flat_flat k f xs)

pub flat_same : {X A : Type 0} (k h : X → List A) → ((x : X) → k x ≡ h x) → (xs : List X) → flat_map k xs ≡ flat_map h xs
flat_same k h same [] = refl
flat_same k h same (x ∷ xs) = rw (same x, flat_same k h same xs) refl

pub flat_none : {X A : Type 0} (k : X → List A) → ((x : X) → k x ≡ []) → (xs : List X) → flat_map k xs ≡ []
flat_none k none [] = refl
flat_none k none (x ∷ xs) = rw (none x, flat_none k none xs) refl

pub flat_of_map : {X Y A : Type 0} (k : Y → List A) (f : X → Y) (xs : List X) → flat_map k (map f xs) ≡ flat_map (λ x. k (f x)) xs
flat_of_map k f [] = refl
flat_of_map k f (x ∷ xs) = ap (λ l. k (f x) ++ l) (flat_of_map k f xs)

cons_is : {A : Type 0} (o : Option A) (xs ys : List A) → xs ≡ ys → cons_option o xs ≡ option_to_list o ++ ys
cons_is None xs ys e = e
cons_is (Some x) xs ys e = ap (λ l. x ∷ l) e

-- a `filter_map` and a sum as a `flat_map`
pub filter_map_is : {X A : Type 0} (h : X → Option A) (xs : List X) → filter_map h xs ≡ flat_map (λ x. option_to_list (h x)) xs
filter_map_is h [] = refl
filter_map_is h (x ∷ xs) = cons_is (h x) (filter_map h xs) (flat_map (λ x. option_to_list (h x)) xs) (filter_map_is h xs)

abbrev pub marks : {X : Type 0} → (X → ℕ) → X → List ℕ
marks f x = range_with_len 0 (f x)

pub sum_is : {X : Type 0} (f : X → ℕ) (xs : List X) → sum_by f xs ≡ length (flat_map (marks f) xs)
sum_is f [] = refl
sum_is f (x ∷ xs) =
    let one = sum_by-cons f x xs in
    let rest = sum_is f xs in
    let long = length-append (marks f x) (flat_map (marks f) xs) in
    let mark = length-range_with_len 0 (f x) in
    one ∙ omega arith

module _ {A : Type 0} (k : Entry → List A) where
  quiet_depth : ((d : ℕ) → k (Depth d) ≡ []) → (d : ℕ) (test : Bool) → flat_map k (if test then [] else Depth d ∷ []) ≡ []
  quiet_depth none d true = refl
  quiet_depth none d false = rw (none d) refl

  quiet_ports : ((p : PortPlace) (c : ℕ) → k (Port p c) ≡ []) → (ps : List (PortPlace × PortProgram)) → flat_map k (map port_entry ps) ≡ []
  quiet_ports none ps = flat_of_map k port_entry ps ∙ flat_none (λ p. k (port_entry p)) (λ p. none p.0 p.1.capacity) ps

  quiet_feeds : ((p : PortPlace) (words : List ℕ) → k (Feed p words) ≡ []) → (ps : List (PortPlace × PortProgram)) → flat_map k (flat_map feed_entries ps) ≡ []
  quiet_feeds none ps =
      flat_flat k feed_entries ps
      ∙ flat_none (λ p. flat_map k (feed_entries p)) (λ p. flat_of_map k (Feed p.0) (pieces 8 p.1.words) ∙ flat_none (λ words. k (Feed p.0 words)) (none p.0) (pieces 8 p.1.words)) ps

  quiet_memory : ((t : Position) (a : ℕ) (words : List ℕ) → k (Data t a words) ≡ []) → ((t : Position) (turns : List ℕ) → k (Misses t turns) ≡ [])
      → (columns : ℕ) (tiles : List (ℕ × TileProgram)) → flat_map k (flat_map (memory_entries columns) tiles) ≡ []
  quiet_memory data_none misses_none columns tiles = flat_flat k (memory_entries columns) tiles ∙ flat_none (λ t. flat_map k (memory_entries columns t)) each tiles
    where
      each : (t : ℕ × TileProgram) → flat_map k (memory_entries columns t) ≡ []
      each t =
          flat_map-append k (map (data_entry_of columns t.0) t.1.cells) (map (Misses (tile_at columns t.0)) (pieces 16 t.1.misses))
          ∙ rw (
            flat_of_map k (data_entry_of columns t.0) t.1.cells ∙ flat_none (λ cell. k (data_entry_of columns t.0 cell)) (λ cell. data_none (tile_at columns t.0) cell.address (cell.word ∷ [])) t.1.cells,
            flat_of_map k (Misses (tile_at columns t.0)) (pieces 16 t.1.misses) ∙ flat_none (λ turns. k (Misses (tile_at columns t.0) turns)) (misses_none (tile_at columns t.0)) (pieces 16 t.1.misses),
          ) refl

  quiet_shows : ((t : Position) (a n : ℕ) → k (Show t a n) ≡ []) → (columns : ℕ) (shows : List Shown) → flat_map k (map (show_entry_of columns) shows) ≡ []
  quiet_shows none columns shows = flat_of_map k (show_entry_of columns) shows ∙ flat_none (λ s. k (show_entry_of columns s)) (λ s. none (tile_at columns s.tile) s.address s.words) shows

  quiet_code : ((t : Position) (code : List Instruction) → k (Tile t code) ≡ []) → (t : Position) (code : List Instruction) → flat_map k (code_entries t code) ≡ []
  quiet_code none t [] = refl
  quiet_code none t (i ∷ code) = rw (none t (i ∷ code)) refl

  quiet_switch : ((t : Position) (code : List SwitchInstruction) → k (Switch t code) ≡ []) → (t : Position) (code : List SwitchInstruction) → flat_map k (switch_entries t code) ≡ []
  quiet_switch none t [] = refl
  quiet_switch none t (i ∷ code) = rw (none t (i ∷ code)) refl

  quiet_programs : ((t : Position) (code : List Instruction) → k (Tile t code) ≡ []) → ((t : Position) (code : List SwitchInstruction) → k (Switch t code) ≡ [])
      → (columns : ℕ) (tiles : List (ℕ × TileProgram)) → flat_map k (flat_map (program_entries columns) tiles) ≡ []
  quiet_programs tile_none switch_none columns tiles = flat_flat k (program_entries columns) tiles ∙ flat_none (λ t. flat_map k (program_entries columns t)) each tiles
    where
      each : (t : ℕ × TileProgram) → flat_map k (program_entries columns t) ≡ []
      each t =
          flat_map-append k (code_entries (tile_at columns t.0) t.1.code) (switch_entries (tile_at columns t.0) t.1.switch)
          ∙ rw (quiet_code tile_none (tile_at columns t.0) t.1.code, quiet_switch switch_none (tile_at columns t.0) t.1.switch) refl

  -- what the entries of a set say, part by part
  pub by_parts : (set : ProgramSet) → flat_map k (set_entries set)
      ≡ flat_map k (first_entries set) ++ (flat_map k (depth_entries set.depth) ++ (flat_map k (port_part set) ++ (flat_map k (feed_part set)
      ++ (flat_map k (memory_part set) ++ (flat_map k (show_part set) ++ flat_map k (program_part set))))))
  by_parts set =
      let depth = depth_entries set.depth in
      flat_map-append k (first_entries set) (port_entries set ++ later_entries set)
      ∙ ap (λ l. flat_map k (first_entries set) ++ l)
      (flat_map-append k (port_entries set) (later_entries set)
      ∙ rw (
        flat_map-append k depth (port_part set),
        flat_map-append k (feed_part set) (memory_part set ++ (show_part set ++ program_part set)),
        flat_map-append k (memory_part set) (show_part set ++ program_part set),
        flat_map-append k (show_part set) (program_part set),
      )
      (append_assoc (flat_map k depth) (flat_map k (port_part set)) (flat_map k (feed_part set) ++ (flat_map k (memory_part set) ++ (flat_map k (show_part set) ++ flat_map k (program_part set))))))

  -- ports alone
  pub only_ports : (set : ProgramSet) → flat_map k (first_entries set) ≡ [] → ((d : ℕ) → k (Depth d) ≡ []) → ((p : PortPlace) (words : List ℕ) → k (Feed p words) ≡ [])
      → ((t : Position) (a : ℕ) (words : List ℕ) → k (Data t a words) ≡ []) → ((t : Position) (turns : List ℕ) → k (Misses t turns) ≡ []) → ((t : Position) (a n : ℕ) → k (Show t a n) ≡ [])
      → ((t : Position) (code : List Instruction) → k (Tile t code) ≡ []) → ((t : Position) (code : List SwitchInstruction) → k (Switch t code) ≡ [])
      → flat_map k (set_entries set) ≡ flat_map k (port_part set)
  only_ports set first depth feed data_none misses show code switch =
      by_parts set
      ∙ rw (
        first,
        quiet_depth depth set.depth (set.depth == DEFAULT_DEPTH),
        quiet_feeds feed (placed_ports set),
        quiet_memory data_none misses set.topo.cols (enumerate_from 0 set.tiles),
        quiet_shows show set.topo.cols set.shows,
        quiet_programs code switch set.topo.cols (enumerate_from 0 set.tiles),
      ) (append-nil (flat_map k (port_part set)))

  -- words of sources alone
  pub only_feeds : (set : ProgramSet) → flat_map k (first_entries set) ≡ [] → ((d : ℕ) → k (Depth d) ≡ []) → ((p : PortPlace) (c : ℕ) → k (Port p c) ≡ [])
      → ((t : Position) (a : ℕ) (words : List ℕ) → k (Data t a words) ≡ []) → ((t : Position) (turns : List ℕ) → k (Misses t turns) ≡ []) → ((t : Position) (a n : ℕ) → k (Show t a n) ≡ [])
      → ((t : Position) (code : List Instruction) → k (Tile t code) ≡ []) → ((t : Position) (code : List SwitchInstruction) → k (Switch t code) ≡ [])
      → flat_map k (set_entries set) ≡ flat_map k (feed_part set)
  only_feeds set first depth port data_none misses show code switch =
      by_parts set
      ∙ rw (
        first,
        quiet_depth depth set.depth (set.depth == DEFAULT_DEPTH),
        quiet_ports port (placed_ports set),
        quiet_memory data_none misses set.topo.cols (enumerate_from 0 set.tiles),
        quiet_shows show set.topo.cols set.shows,
        quiet_programs code switch set.topo.cols (enumerate_from 0 set.tiles),
      ) (append-nil (flat_map k (feed_part set)))

  -- memories and miss streams alone
  pub only_memory : (set : ProgramSet) → flat_map k (first_entries set) ≡ [] → ((d : ℕ) → k (Depth d) ≡ []) → ((p : PortPlace) (c : ℕ) → k (Port p c) ≡ [])
      → ((p : PortPlace) (words : List ℕ) → k (Feed p words) ≡ []) → ((t : Position) (a n : ℕ) → k (Show t a n) ≡ [])
      → ((t : Position) (code : List Instruction) → k (Tile t code) ≡ []) → ((t : Position) (code : List SwitchInstruction) → k (Switch t code) ≡ [])
      → flat_map k (set_entries set) ≡ flat_map k (memory_part set)
  only_memory set first depth port feed show code switch =
      by_parts set
      ∙ rw (
        first,
        quiet_depth depth set.depth (set.depth == DEFAULT_DEPTH),
        quiet_ports port (placed_ports set),
        quiet_feeds feed (placed_ports set),
        quiet_shows show set.topo.cols set.shows,
        quiet_programs code switch set.topo.cols (enumerate_from 0 set.tiles),
      ) (append-nil (flat_map k (memory_part set)))

  -- shown words alone
  pub only_shows : (set : ProgramSet) → flat_map k (first_entries set) ≡ [] → ((d : ℕ) → k (Depth d) ≡ []) → ((p : PortPlace) (c : ℕ) → k (Port p c) ≡ [])
      → ((p : PortPlace) (words : List ℕ) → k (Feed p words) ≡ []) → ((t : Position) (a : ℕ) (words : List ℕ) → k (Data t a words) ≡ []) → ((t : Position) (turns : List ℕ) → k (Misses t turns) ≡ [])
      → ((t : Position) (code : List Instruction) → k (Tile t code) ≡ []) → ((t : Position) (code : List SwitchInstruction) → k (Switch t code) ≡ [])
      → flat_map k (set_entries set) ≡ flat_map k (show_part set)
  only_shows set first depth port feed data_none misses code switch =
      by_parts set
      ∙ rw (
        first,
        quiet_depth depth set.depth (set.depth == DEFAULT_DEPTH),
        quiet_ports port (placed_ports set),
        quiet_feeds feed (placed_ports set),
        quiet_memory data_none misses set.topo.cols (enumerate_from 0 set.tiles),
        quiet_programs code switch set.topo.cols (enumerate_from 0 set.tiles),
      ) (append-nil (flat_map k (show_part set)))

  -- programs alone
  pub only_programs : (set : ProgramSet) → flat_map k (first_entries set) ≡ [] → ((d : ℕ) → k (Depth d) ≡ []) → ((p : PortPlace) (c : ℕ) → k (Port p c) ≡ [])
      → ((p : PortPlace) (words : List ℕ) → k (Feed p words) ≡ []) → ((t : Position) (a : ℕ) (words : List ℕ) → k (Data t a words) ≡ []) → ((t : Position) (turns : List ℕ) → k (Misses t turns) ≡ [])
      → ((t : Position) (a n : ℕ) → k (Show t a n) ≡ [])
      → flat_map k (set_entries set) ≡ flat_map k (program_part set)
  only_programs set first depth port feed data_none misses show =
      by_parts set
      ∙ rw (
        first,
        quiet_depth depth set.depth (set.depth == DEFAULT_DEPTH),
        quiet_ports port (placed_ports set),
        quiet_feeds feed (placed_ports set),
        quiet_memory data_none misses set.topo.cols (enumerate_from 0 set.tiles),
        quiet_shows show set.topo.cols set.shows,
      ) refl

  -- the depth alone
  pub only_depth : (set : ProgramSet) → flat_map k (first_entries set) ≡ [] → ((p : PortPlace) (c : ℕ) → k (Port p c) ≡ [])
      → ((p : PortPlace) (words : List ℕ) → k (Feed p words) ≡ []) → ((t : Position) (a : ℕ) (words : List ℕ) → k (Data t a words) ≡ []) → ((t : Position) (turns : List ℕ) → k (Misses t turns) ≡ [])
      → ((t : Position) (a n : ℕ) → k (Show t a n) ≡ [])
      → ((t : Position) (code : List Instruction) → k (Tile t code) ≡ []) → ((t : Position) (code : List SwitchInstruction) → k (Switch t code) ≡ [])
      → flat_map k (set_entries set) ≡ flat_map k (depth_entries set.depth)
  only_depth set first port feed data_none misses show code switch =
      by_parts set
      ∙ rw (
        first,
        quiet_ports port (placed_ports set),
        quiet_feeds feed (placed_ports set),
        quiet_memory data_none misses set.topo.cols (enumerate_from 0 set.tiles),
        quiet_shows show set.topo.cols set.shows,
        quiet_programs code switch set.topo.cols (enumerate_from 0 set.tiles),
      ) (append-nil (flat_map k (depth_entries set.depth)))

  -- nothing behind the ports
  pub later_quiet : (set : ProgramSet) → ((p : PortPlace) (words : List ℕ) → k (Feed p words) ≡ []) → ((t : Position) (a : ℕ) (words : List ℕ) → k (Data t a words) ≡ [])
      → ((t : Position) (turns : List ℕ) → k (Misses t turns) ≡ []) → ((t : Position) (a n : ℕ) → k (Show t a n) ≡ [])
      → ((t : Position) (code : List Instruction) → k (Tile t code) ≡ []) → ((t : Position) (code : List SwitchInstruction) → k (Switch t code) ≡ [])
      → flat_map k (later_entries set) ≡ []
  later_quiet set feed data_none misses show code switch =
      flat_map-append k (feed_part set) (memory_part set ++ (show_part set ++ program_part set))
      ∙ rw (
        quiet_feeds feed (placed_ports set),
        flat_map-append k (memory_part set) (show_part set ++ program_part set),
        quiet_memory data_none misses set.topo.cols (enumerate_from 0 set.tiles),
        flat_map-append k (show_part set) (program_part set),
        quiet_shows show set.topo.cols set.shows,
        quiet_programs code switch set.topo.cols (enumerate_from 0 set.tiles),
      ) refl

-- of numbered tiles one alone says something
none_after : {X A : Type 0} (f : ℕ × X → List A) (xs : List X) (from t : ℕ) → ((j : ℕ) (x : X) → (j == t) ≡ false → f (j, x) ≡ []) → t < from → flat_map f (enumerate_from from xs) ≡ []
none_after f [] from t none lt = refl
none_after f (x ∷ xs) from t none lt =
    let other : (from == t) ≡ false = grind (arith, nat_tests) in
    rw (none from x other, none_after f xs (from + 1) t none (omega arith)) refl

pub pick : {X A : Type 0} (f : ℕ × X → List A) (xs : List X) (from t : ℕ) (d : X) → ((j : ℕ) (x : X) → (j == t) ≡ false → f (j, x) ≡ []) → from ≤ t → t < from + length xs
    → flat_map f (enumerate_from from xs) ≡ f (t, get_or xs (t - from) d)
pick f [] from t d none le lt = absurd (omega arith)
pick f (x ∷ xs) from t d none le lt =
    ⊎_elim
    (λ (before : from < t).
    let other : (from == t) ≡ false = grind (arith, nat_tests) in
    let e : t - from ≡ suc (t - (from + 1)) = omega arith in
    rw (none from x other) (pick f xs (from + 1) t d none (omega arith) (omega arith) ∙ ap (λ n. f (t, get_or (x ∷ xs) n d)) (sym e)))
    (λ (here : t ≤ from).
    let e : from ≡ t = omega arith in
    let zeroth : t - from ≡ 0 = omega arith in
    ap (λ l. f (from, x) ++ l) (none_after f xs (from + 1) t none (omega arith)) ∙ append-nil (f (from, x))
    ∙ ap (λ n. f (n, x)) e ∙ ap (λ n. f (t, get_or (x ∷ xs) n d)) (sym zeroth))
    (cases_lt from t)

-- the pieces of a list together are the list
join_from : {X : Type 0} (size : ℕ) (xs : List X) (from count : ℕ)
    → flat_map (λ piece. piece) (map (λ n. take size (drop (n * size) xs)) (range_with_len from count)) ≡ take (count * size) (drop (from * size) xs)
join_from size xs from zero =
    let none : 0 * size ≡ 0 = omega arith in
    ap (λ n. take n (drop (from * size) xs)) (sym none)
join_from size xs from (suc count) =
    let next : drop ((from + 1) * size) xs ≡ drop size (drop (from * size) xs) = ap (λ n. drop n xs) (let m = add-mul from 1 size in omega arith) ∙ sym (drop-drop size (from * size) xs) in
    let e : size + count * size ≡ suc count * size = (let m = add-mul 1 count size in omega arith) in
    ap (λ l. take size (drop (from * size) xs) ++ l) (join_from size xs (from + 1) count ∙ ap (λ l. take (count * size) l) next)
    ∙ sym (take-add size (count * size) (drop (from * size) xs))
    ∙ ap (λ n. take n (drop (from * size) xs)) e

pub pieces_join : {X : Type 0} (size : ℕ) (xs : List X) → length xs ≤ (length xs + size - 1) / size * size → flat_map (λ piece. piece) (pieces size xs) ≡ xs
pieces_join size xs le =
    let none : 0 * size ≡ 0 = omega arith in
    join_from size xs 0 ((length xs + size - 1) / size) ∙ ap (λ n. take ((length xs + size - 1) / size * size) (drop n xs)) none ∙ take_all ((length xs + size - 1) / size * size) xs le
