-- The start of a machine fits its program set.
use Rattle.std.proofs.Common.{◌≡◌, ℕ, zero, suc, ◌+◌, ◌-◌, ◌*◌, ◌^◌, ◌<◌, ◌≤◌, cond, nat_lt, List, [], ◌∷◌, ◌++◌, length, map, Some, refl, sym, ap, subst, ◌∙◌, arith, add-zero}
use Rattle.std.specs.Prelude.{slice_get, replicate, option_map}
use Rattle.std.specs.List.{All}
use Rattle.std.proofs.lemmas.Bool.{lt-ltb, le-ltb}
use Rattle.std.specs.Int.{w32, to_be_bytes}
use Rattle.std.proofs.lemmas.List.{length-append, length-map, length-replicate}
use Rattle.std.proofs.lemmas.List.Elements.{All-nil, All-replicate}
use Rattle.std.proofs.lemmas.Option.{same_Some, slice_get_within}
use Rattle.raw_network.specs.Network.{values_on}
use Rattle.raw_switch_isa.specs.Instruction.{SwitchInstruction}
use Rattle.raw_grid.specs.declared.parts.PortKind.{PortKind}
use Rattle.raw_grid.specs.declared.parts.PortKind.TheVariants as kind
use Rattle.raw_grid.specs.declared.parts.PortPlace.{PortPlace}
use Rattle.raw_grid.specs.declared.parts.ProcKind.TheVariants as proc
use Rattle.raw_grid.specs.Topology.{Topology, tile_count, port_proc, kind_at}
use Rattle.raw_grid.specs.Wires.{wires_of}
use Rattle.raw_model.specs.declared.marks.Mark.TheVariants.{Going}
use Rattle.raw_model.specs.Program.{ProgramSet, TileProgram, IsSet}
use Rattle.raw_model.specs.Local.{Local, Tile, Switch}
use Rattle.raw_model.specs.Machine.{program_code, program_switch}
use Rattle.raw_model.specs.declared.program.DataWord.{DataWord}
use Rattle.raw_model.specs.TileTable.{stored}
use Rattle.raw_model.proofs.Words.{length-stored, bytes_stored, bytes_of_word}
use Rattle.raw_model.specs.Start.{start, memory_size, first_mark, first_memory, with_words, empty_memory, first_tile, first_switch, first_port, FitsTile, FitsSwitch, IsFit, Fits}
use Rattle.raw_model.proofs.Words.{read_at}

-- what holds of each element and its place, counted from b on
abbrev AllFrom : {X : Type 0} → (ℕ → X → Type 0) → ℕ → List X → Type 0
AllFrom P b [] = Unit {0}
AllFrom P b (x ∷ xs) = P b x × AllFrom P (suc b) xs

all_from_append : {X : Type 0} (P : ℕ → X → Type 0) (b : ℕ) (xs ys : List X) → AllFrom P b xs → AllFrom P (b + length xs) ys
    → AllFrom P b (xs ++ ys)
all_from_append P b [] ys front back = subst (λ n. AllFrom P n ys) (add-zero b) back
all_from_append P b (x ∷ xs) ys front back =
    (front.0, all_from_append P (suc b) xs ys front.1 (subst (λ n. AllFrom P n ys) (let e : b + suc (length xs) ≡ suc b + length xs = omega arith in e) back))

all_from_map : {X Y : Type 0} (P : ℕ → Y → Type 0) (f : X → Y) (b : ℕ) (xs : List X)
    → ((i : ℕ) (x : X) → slice_get xs i ≡ Some x → P (b + i) (f x)) → AllFrom P b (map f xs)
all_from_map P f b [] each = tt
all_from_map P f b (x ∷ xs) each = (
  subst (λ n. P n (f x)) (add-zero b) (each 0 x refl),
  all_from_map P f (suc b) xs (λ i y here. subst (λ n. P n (f y)) (let e : b + suc i ≡ suc b + i = omega arith in e) (each (suc i) y here)),
)

all_from_at : {X : Type 0} (P : ℕ → X → Type 0) (b : ℕ) (xs : List X) → AllFrom P b xs → (i : ℕ) (x : X)
    → slice_get xs i ≡ Some x → P (b + i) x
all_from_at P b [] all i x here = cc
all_from_at P b (y ∷ ys) all zero x here =
    subst (λ z. P (b + 0) z) (same_Some y x here) (subst (λ n. P n y) (sym (add-zero b)) all.0)
all_from_at P b (y ∷ ys) all (suc i) x here =
    subst (λ n. P n x) (let e : suc b + i ≡ b + suc i = omega arith in e) (all_from_at P (suc b) ys all.1 i x here)

-- a program that is not empty is entered
first_inside : {A : Type 0} (code : List A) → first_mark code ≡ Going → 0 < length code
first_inside [] e = cc e
first_inside (ins ∷ code) e = omega arith

-- storing words keeps the size of a memory, and that it holds bytes
length-with_words : (memory : List ℕ) (cells : List DataWord) → length (with_words memory cells) ≡ length memory
length-with_words memory [] = refl
length-with_words memory (cell ∷ cells) =
    length-with_words (stored memory cell.address (to_be_bytes w32 cell.word)) cells ∙ length-stored memory cell.address (to_be_bytes w32 cell.word)

bytes-with_words : (memory : List ℕ) (cells : List DataWord) → All (λ byte. byte < 256) memory → All (λ byte. byte < 256) (with_words memory cells)
bytes-with_words memory [] are = are
bytes-with_words memory (cell ∷ cells) are =
    bytes-with_words (stored memory cell.address (to_be_bytes w32 cell.word)) cells (bytes_stored memory cell.address (to_be_bytes w32 cell.word) are (bytes_of_word cell.word))

-- the first memory of a tile is of its size, and holds bytes
pub first_memory_fits : (cells : List DataWord) → (length (first_memory cells) ≡ memory_size) × All (λ byte. byte < 256) (first_memory cells)
unfolding first_memory
first_memory_fits cells = (
  length-with_words empty_memory cells ∙ length-replicate memory_size 0,
  bytes-with_words empty_memory cells (All-replicate (λ byte. byte < 256) memory_size 0 (omega arith)),
)

-- a tile, a switch and a port that have done nothing fit
pub first_tile_fits : (limit : ℕ) (tile : TileProgram) → FitsTile limit tile.code (first_tile tile)
first_tile_fits limit tile =
    record {
      registers = length-replicate {A = ℕ} 32 0;
      words = All-replicate (λ word. word < 2 ^ 32) 32 0 (omega arith);
      register_0 = refl;
      register_24 = refl;
      register_25 = refl;
      pc = omega arith;
      inside = first_inside tile.code;
      count = omega arith;
      memory = (first_memory_fits tile.cells).0;
      bytes = (first_memory_fits tile.cells).1;
    }

pub first_switch_fits : (limit : ℕ) (code : List SwitchInstruction) → FitsSwitch limit code (first_switch code)
first_switch_fits limit code =
    record {
      registers = length-replicate {A = ℕ} 4 0;
      words = All-replicate (λ word. word < 2 ^ 32) 4 0 (omega arith);
      pc = omega arith;
      inside = first_inside code;
      count = omega arith;
    }

pub first_port_fits : (set : ProgramSet) (p : ℕ) (k : PortKind) → kind_at set.topo p ≡ Some (port_proc k) → IsFit set p (first_port k)
first_port_fits set p kind.Source is = (is, record { done = omega arith; got = refl })
first_port_fits set p kind.Sink is = (is, record { done = omega arith; got = refl; words = All-nil (λ word. word < 2 ^ 32) })

-- which processor is of which kind
module _ (t : Topology) where
  tile_kind : (p : ℕ) → p < tile_count t → kind_at t p ≡ Some proc.Tile
  tile_kind p below =
      ap (λ b. cond b (Some proc.Tile) (cond (nat_lt p (2 * tile_count t)) (Some proc.Switch) (option_map (λ (place : PortPlace). port_proc place.kind) (slice_get t.places (p - 2 * tile_count t)))))
      (lt-ltb p (tile_count t) below)

  switch_kind : (p : ℕ) → tile_count t ≤ p → p < 2 * tile_count t → kind_at t p ≡ Some proc.Switch
  switch_kind p above below =
      ap (λ b. cond b (Some proc.Tile) (cond (nat_lt p (2 * tile_count t)) (Some proc.Switch) (option_map (λ (place : PortPlace). port_proc place.kind) (slice_get t.places (p - 2 * tile_count t)))))
      (le-ltb p (tile_count t) above)
      ∙ ap (λ b. cond b (Some proc.Switch) (option_map (λ (place : PortPlace). port_proc place.kind) (slice_get t.places (p - 2 * tile_count t))))
      (lt-ltb p (2 * tile_count t) below)

  port_kind : (p : ℕ) → 2 * tile_count t ≤ p
      → kind_at t p ≡ option_map (λ (place : PortPlace). port_proc place.kind) (slice_get t.places (p - 2 * tile_count t))
  port_kind p above =
      ap (λ b. cond b (Some proc.Tile) (cond (nat_lt p (2 * tile_count t)) (Some proc.Switch) (option_map (λ (place : PortPlace). port_proc place.kind) (slice_get t.places (p - 2 * tile_count t)))))
      (le-ltb p (tile_count t) (omega arith))
      ∙ ap (λ b. cond b (Some proc.Switch) (option_map (λ (place : PortPlace). port_proc place.kind) (slice_get t.places (p - 2 * tile_count t))))
      (le-ltb p (2 * tile_count t) above)

module _ (set : ProgramSet) (valid : IsSet set) where
  tile_at : (i : ℕ) (tile : TileProgram) → slice_get set.tiles i ≡ Some tile → IsFit set (0 + i) (Tile (first_tile tile))
  tile_at i tile here =
      let within = slice_get_within set.tiles i tile here in
      let many = valid.each_tile in
      subst (λ p. IsFit set p (Tile (first_tile tile))) (let e : i ≡ 0 + i = omega arith in e) (
        tile_kind set.topo i (omega arith),
        subst (λ code. FitsTile set.limit code (first_tile tile)) (sym (ap program_code here)) (first_tile_fits set.limit tile),
      )

  switch_at : (i : ℕ) (tile : TileProgram) → slice_get set.tiles i ≡ Some tile
      → IsFit set (0 + length set.tiles + i) (Switch (first_switch tile.switch))
  switch_at i tile here =
      let within = slice_get_within set.tiles i tile here in
      let many = valid.each_tile in
      let at : 0 + length set.tiles + i - tile_count set.topo ≡ i = omega arith in (
        switch_kind set.topo (0 + length set.tiles + i) (omega arith) (omega arith),
        subst (λ code. FitsSwitch set.limit code (first_switch tile.switch)) (sym (ap (λ k. program_switch (slice_get set.tiles k)) at ∙ ap program_switch here))
            (first_switch_fits set.limit tile.switch),
      )

  port_at : (i : ℕ) (place : PortPlace) → slice_get set.topo.places i ≡ Some place
      → IsFit set (0 + length set.tiles + length set.tiles + i) (first_port place.kind)
  port_at i place here =
      let many = valid.each_tile in
      let at : 0 + length set.tiles + length set.tiles + i - 2 * tile_count set.topo ≡ i = omega arith in
      first_port_fits set (0 + length set.tiles + length set.tiles + i) place.kind
      (port_kind set.topo (0 + length set.tiles + length set.tiles + i) (omega arith)
      ∙ ap (λ k. option_map (λ (place : PortPlace). port_proc place.kind) (slice_get set.topo.places k)) at
      ∙ ap (option_map (λ (place : PortPlace). port_proc place.kind)) here)

  -- each local state of the start fits its processor
  locals_fit : AllFrom (IsFit set) 0 (start set).locals
  unfolding start
  locals_fit =
      let tiles = map (λ (tile : TileProgram). Tile (first_tile tile)) set.tiles in
      let switches = map (λ (tile : TileProgram). Switch (first_switch tile.switch)) set.tiles in
      let ports = map (λ (place : PortPlace). first_port place.kind) set.topo.places in
      let tile_number = length-map set.tiles (λ (tile : TileProgram). Tile (first_tile tile)) in
      let switch_number = length-map set.tiles (λ (tile : TileProgram). Switch (first_switch tile.switch)) in
      all_from_append (IsFit set) 0 tiles (switches ++ ports)
      (all_from_map (IsFit set) (λ (tile : TileProgram). Tile (first_tile tile)) 0 set.tiles tile_at)
      (subst (λ n. AllFrom (IsFit set) (0 + n) (switches ++ ports)) (sym tile_number)
      (all_from_append (IsFit set) (0 + length set.tiles) switches ports
      (all_from_map (IsFit set) (λ (tile : TileProgram). Switch (first_switch tile.switch)) (0 + length set.tiles) set.tiles switch_at)
      (subst (λ n. AllFrom (IsFit set) (0 + length set.tiles + n) ports) (sym switch_number)
      (all_from_map (IsFit set) (λ (place : PortPlace). first_port place.kind) (0 + length set.tiles + length set.tiles) set.topo.places port_at))))

  processors_are : length (start set).locals ≡ 2 * tile_count set.topo + length set.topo.places
  unfolding start
  processors_are =
      let tiles = map (λ (tile : TileProgram). Tile (first_tile tile)) set.tiles in
      let switches = map (λ (tile : TileProgram). Switch (first_switch tile.switch)) set.tiles in
      let ports = map (λ (place : PortPlace). first_port place.kind) set.topo.places in
      let a = length-append tiles (switches ++ ports) in
      let b = length-append switches ports in
      let c = length-map set.tiles (λ (tile : TileProgram). Tile (first_tile tile)) in
      let d = length-map set.tiles (λ (tile : TileProgram). Switch (first_switch tile.switch)) in
      let e = length-map set.topo.places (λ (place : PortPlace). first_port place.kind) in
      let f = valid.each_tile in
      omega arith

  wires_are : length (start set).wires ≡ length (wires_of set.topo)
  unfolding start
  wires_are = length-replicate (length (wires_of set.topo)) []

  wires_empty : (w : ℕ) → values_on (start set).wires w ≡ []
  unfolding start
  wires_empty w =
      let wires : List (List ℕ) = replicate (length (wires_of set.topo)) [] in
      read_at (λ (values : List ℕ). values ≡ []) wires w [] refl
      (All-replicate (λ (values : List ℕ). values ≡ []) (length (wires_of set.topo)) [] refl)

  local_at : (p : ℕ) (l : Local) → slice_get (start set).locals p ≡ Some l → IsFit set p l
  local_at p l here =
      subst (λ q. IsFit set q l) (let e : 0 + p ≡ p = omega arith in e) (all_from_at (IsFit set) 0 (start set).locals locals_fit p l here)

  -- the start fits
  pub start_fits : Fits set (start set)
  start_fits =
      record {
        processors = processors_are;
        locals = local_at;
        wires = wires_are;
        depth = λ w. let e = ap length (wires_empty w) in omega arith;
        values = λ w. subst (All (λ word. word < 2 ^ 32)) (sym (wires_empty w)) (All-nil (λ word. word < 2 ^ 32));
      }
